-- A SELECTION OF AN ACCEPTED TEXT HAS AT MOST 512 OPTIONS: each holds a statement, and the text has no more of these.
use Prim.Native.Nat.{ℕ, suc, ◌+◌, ◌≤◌}
use native.Mathlib.Omega.{arith}
use mathlib.Core.Path.{◌≡◌, refl, ap, ap₂, ◌∙◌}
use mathlib.Core.Bool.{Bool, true, false}
use mathlib.Core.List.{List, [], ◌∷◌, ◌++◌}
use lib.ListN.{length, replicate}
use lib.Dec.{eqb, ltb}
use borrow.Author.Tests.{ltb-false}
use Rattle.base_ceilings.specs.Ceilings.{channels_most, globals_most, items_most, mtypes_most, processes_most, proctypes_most, statements_most}
use Rattle.base_bytes.specs.Choice.{pick, either}
use Rattle.base_bytes.proofs.Tests.{true_false, either_false}
use Rattle.spec_grammar.specs.Tree.{action, statement, sequence, options, Tree, leaf, express, assign, increment, decrement, send, receive, assert, print, skip, goto, break, timeout, else, run, set_run, select, loop, bare, labelled, end, then, over, option}
use Rattle.base_codes.specs.Items.{Item, code_of, i_assert, i_assign, i_decrement, i_do, i_end, i_end_option, i_express, i_fi, i_if, i_increment, i_name, i_od, i_receive, i_run, i_send, i_set_run, i_target, i_text}
use Rattle.parse_code.specs.Code.{each, code_exp, code_argument, code_received, code_tree, code}
use Rattle.rule_sheets.specs.Walks.{sum}
use Rattle.rule_sheets.specs.Homes.{homes_of}
use Rattle.rule_search.specs.Sets.{among}
use Rattle.rule_ceilings.specs.Ceilings.{one, weight, total, numbers, any_passed, passed}
use Rattle.link_phrases_proof.specs.Phrases.{At}
use Rattle.read_accepts_proof.specs.Meaning.{Accepts}
use Rattle.agree_eval.specs.Names.{codes_at, said_at, homes_at}
use Rattle.agree_eval.proofs.Main.{items_long}
use Rattle.agree_stage.proofs.Stands.{Lying}
use Rattle.agree_nesting.specs.Full.{Starts, Full}
use Rattle.agree_nesting.proofs.Main.{all_at}
use Rattle.agree_offers.specs.Depth.{options_in}

-- ---- how many statements items mark
abbrev marks : List Item → ℕ
marks [] = 0
marks (x ∷ l) = one 11 (code_of x) + marks l

marks-append : (x y : List Item) → marks (x ++ y) ≡ marks x + marks y
marks-append [] y = omega arith
marks-append (a ∷ x) y = let e = marks-append x y in omega arith

-- a mark behind others
marked-behind : (x : List Item) (m : Item) (y : List Item) → one 11 (code_of m) ≡ 1 → 1 ≤ marks (x ++ m ∷ y)
marked-behind x m y e = let a = marks-append x (m ∷ y) in omega arith

marked-before : (x y : List Item) → 1 ≤ marks x → 1 ≤ marks (x ++ y)
marked-before x y h = let a = marks-append x y in omega arith

action_marked : (x : Tree action) → 1 ≤ marks (code_tree x)
unfolding one among
action_marked (leaf (express e)) = marked-behind (code_exp e) i_express [] refl
action_marked (leaf (assign r e)) = marked-behind (code_exp r ++ i_target ∷ code_exp e) i_assign [] refl
action_marked (leaf (increment r)) = marked-behind (code_exp r) i_increment [] refl
action_marked (leaf (decrement r)) = marked-behind (code_exp r) i_decrement [] refl
action_marked (leaf (send mk r es)) = marked-before (code_exp r ++ i_send mk ∷ each code_argument es) (i_end ∷ []) (marked-behind (code_exp r) (i_send mk) (each code_argument es) refl)
action_marked (leaf (receive mk r xs)) = marked-before (code_exp r ++ i_receive mk ∷ each code_received xs) (i_end ∷ []) (marked-behind (code_exp r) (i_receive mk) (each code_received xs) refl)
action_marked (leaf (assert e)) = marked-behind (code_exp e) i_assert [] refl
action_marked (leaf (print w es)) = marked-behind [] (i_text w) (each code_argument es ++ i_end ∷ []) refl
action_marked (leaf skip) = omega arith
action_marked (leaf (goto w)) = omega arith
action_marked (leaf break) = omega arith
action_marked (leaf timeout) = omega arith
action_marked (leaf else) = omega arith
action_marked (leaf (run w es)) = marked-behind (i_name w ∷ []) i_run (each code_argument es ++ i_end ∷ []) refl
action_marked (leaf (set_run r w es)) =
    marked-before (code_exp r ++ i_target ∷ i_name w ∷ i_set_run ∷ each code_argument es) (i_end ∷ [])
    (let a = marks-append (code_exp r) (i_target ∷ i_name w ∷ i_set_run ∷ each code_argument es) in omega arith)
action_marked (select os) = marked-behind [] i_if (code_tree os ++ i_fi ∷ []) refl
action_marked (loop os) = marked-behind [] i_do (code_tree os ++ i_od ∷ []) refl

statement_marked : (x : Tree statement) → 1 ≤ marks (code_tree x)
statement_marked (bare a) = action_marked a
statement_marked (labelled w a) = let h = action_marked a in omega arith

sequence_marked : (q : Tree sequence) → Starts q → 1 ≤ marks (code_tree q)
sequence_marked end h = absurd h
sequence_marked (then s q) h = marked-before (code_tree s) (code_tree q) (statement_marked s)

options_marked : (os : Tree options) → Full os → options_in os ≤ marks (code_tree os)
options_marked over f = omega arith
options_marked (option q os) f =
    let a = sequence_marked q f.0 in
    let b = options_marked os f.2 in
    let c = marks-append (code_tree q) (i_end_option ∷ code_tree os) in
    omega arith

-- ---- the statements that the ceiling counts
module _ (cs vs hs : List ℕ) where
  counted : (l : List Item) (i : ℕ) → At cs i l → sum (weight cs vs hs 1) i (length l) ≡ marks l
  unfolding sum weight
  counted [] i h = refl
  counted (x ∷ l) i h =
      let z : i + 1 ≡ suc i = omega arith in
      ap₂ ◌+◌ (ap (one 11) h.0) (ap (λ n. sum (weight cs vs hs 1) n (length l)) z ∙ counted l (suc i) h.1)

  ceiled : any_passed cs vs hs ≡ false → total cs vs hs 1 ≤ statements_most
  unfolding any_passed
  ceiled e =
      let n = total cs vs hs in
      let p = either (ltb statements_most (n 1)) (ltb mtypes_most (n 2)) in
      let q = either (ltb proctypes_most (n 3)) (ltb globals_most (numbers cs vs hs 0)) in
      let r = either (either (ltb 0 (n 7)) (ltb 0 (n 6))) (either (either (ltb processes_most (n 4)) (eqb (n 4) 0)) (ltb channels_most (n 5))) in
      ltb-false statements_most (total cs vs hs 1) (either_false (ltb statements_most (n 1)) (ltb mtypes_most (n 2)) (either_false p q (either_false (either p q) r e).0).0).0

  counted_few : (l : List Item) → At cs 0 l → length cs ≡ length l → any_passed cs vs hs ≡ false → marks l ≤ statements_most
  unfolding total
  counted_few l h n e =
      let a = ceiled e in
      let b = counted l 0 h in
      let c = ap (sum (weight cs vs hs 1) 0) n in
      omega arith

passed_none : (cs vs : List ℕ) → passed cs vs ≡ false → any_passed cs vs (homes_of cs (replicate items_most 0)) ≡ false
unfolding passed
passed_none cs vs e = go (ltb items_most (length cs)) e
  where
    go : (b : Bool) → pick b true (any_passed cs vs (homes_of cs (replicate items_most 0))) ≡ false → any_passed cs vs (homes_of cs (replicate items_most 0)) ≡ false
    go true e = absurd (true_false e)
    go false e = e

module _ (t : List ℕ) (a : Accepts t) where
  text-marks : marks (code a.tree) ≤ statements_most
  text-marks = counted_few (codes_at t a) (said_at t a) (homes_at t a) (code a.tree) (all_at t a) (items_long t a) (passed_none (codes_at t a) (said_at t a) a.within)

  -- options whose items stand in its code
  pub few_options : (os : Tree options) (i : ℕ) → Full os → Lying (code a.tree) 0 (code_tree os) i → options_in os ≤ statements_most
  few_options os i f l =
      let b = options_marked os f in
      let c = text-marks in
      let d = ap marks l.split in
      let e = marks-append l.front (code_tree os ++ l.rest) in
      let g = marks-append (code_tree os) l.rest in
      omega arith
