-- A MODEL PASSES NO CEILING EXACTLY WHEN ITS TREE IS MODEST: what is summed over the items is what the tree has.
use Prim.Native.Nat.{ℕ, zero, suc, ◌+◌, ◌≤◌, ◌<◌}
use native.Mathlib.Omega.{arith}
use mathlib.Core.Path.{◌≡◌, refl, ap, ap₂, ◌∙◌}
use mathlib.Core.Bool.{Bool, true, false, not}
use mathlib.Core.Logic.{◌⊎◌, inl, inr}
use mathlib.Core.List.{List, [], ◌∷◌}
use lib.ListN.{length, get_or, replicate, length-map, length-replicate}
use lib.Dec.{eqb, ltb, leb}
use borrow.Author.Tests.{lt-ltb, le-ltb, lt-leb, le-leb, ne_eqb}
use Rattle.base_ceilings.specs.Ceilings.{channels_most, globals_most, items_most, mtypes_most, processes_most, proctypes_most, statements_most}
use Rattle.base_bytes.specs.Choice.{both, either}
use Rattle.parse_machine.proofs.Never.{lt_or_ge}
use Rattle.spec_grammar.specs.Tree.{body, Part, mtypes, global, process, init, Model}
use Rattle.base_codes.specs.Items.{code_of}
use Rattle.parse_code.specs.Code.{code}
use Rattle.rule_sheets.specs.Walks.{sum}
use Rattle.rule_sheets.specs.Homes.{inside_of, home_of, homes_of}
use Rattle.rule_sheets.proofs.Meaning.{home_at}
use Rattle.rule_ceilings.specs.Ceilings.{one, numbers_at, numbers, starts_at, makes_at, wide_at, heavy_at, weight, total, any_passed, passed}
use Rattle.spec_rules.specs.Units.{tally}
use Rattle.spec_rules.specs.Statements.{all}
use Rattle.spec_rules.specs.Ceilings.{statement_count, message_count, proctype_count, global_count, light, start_count, channel_count, modest}
use Rattle.legal_terms.specs.Says.{Says}
use Rattle.legal_items.proofs.Standing.{weigh, sum-weigh, Lain, model_lain}
use Rattle.legal_items.proofs.Counts.{mass_at, statements-model, messages_model, proctypes_model}
use Rattle.legal_items.proofs.Parts.{model-sum, model-none}
use Rattle.legal_items.proofs.Made.{starts-part, channels-part}
use Rattle.legal_items.proofs.Numbers.{globals_part}
use Rattle.legal_items.proofs.Heavy.{spare, heavy_part}
use Rattle.legal_items.proofs.Widths.{tight, wide-part}

-- ---- tests
over : (n m : ℕ) → ltb m n ≡ not (leb n m)
over n m = go (lt_or_ge m n)
  where
    go : (m < n) ⊎ (n ≤ m) → ltb m n ≡ not (leb n m)
    go (inl h) = rw (lt-ltb m n h, lt-leb n m h)
    go (inr h) = rw (le-ltb m n h, le-leb n m h)

any : (n : ℕ) → ltb 0 n ≡ not (eqb n 0)
any zero = refl
any (suc n) = rw (lt-ltb 0 (suc n) (omega arith), ne_eqb (suc n) 0 (λ z. omega arith))

nothing : (n : ℕ) → eqb n 0 ≡ not (leb 1 n)
nothing zero = refl
nothing (suc n) = rw (ne_eqb (suc n) 0 (λ z. omega arith), le-leb 1 (suc n) (omega arith))

not-both : (a b : Bool) → either (not a) (not b) ≡ not (both a b)
not-both true b = refl
not-both false b = refl

turned : (a b : Bool) → either (not a) (not b) ≡ not (both b a)
turned true true = refl
turned true false = refl
turned false true = refl
turned false false = refl

judged : (a b c d s k x y : ℕ)
    → either (either (either (ltb statements_most a) (ltb mtypes_most b)) (either (ltb proctypes_most c) (ltb globals_most d))) (either (either (ltb 0 x) (ltb 0 y)) (either (either (ltb processes_most s) (eqb s 0)) (ltb channels_most k)))
    ≡ not (both (both (both (leb a statements_most) (leb b mtypes_most)) (both (leb c proctypes_most) (leb d globals_most))) (both (both (eqb x 0) (eqb y 0)) (both (both (leb 1 s) (leb s processes_most)) (leb k channels_most))))
judged a b c d s k x y =
    let p = ap₂ either (over a statements_most) (over b mtypes_most) ∙ not-both (leb a statements_most) (leb b mtypes_most) in
    let q = ap₂ either (over c proctypes_most) (over d globals_most) ∙ not-both (leb c proctypes_most) (leb d globals_most) in
    let r = ap₂ either (any x) (any y) ∙ not-both (eqb x 0) (eqb y 0) in
    let t = ap₂ either (over s processes_most) (nothing s) ∙ turned (leb s processes_most) (leb 1 s) in
    let u = ap₂ either t (over k channels_most) ∙ not-both (both (leb 1 s) (leb s processes_most)) (leb k channels_most) in
    let v = ap₂ either p q ∙ not-both (both (leb a statements_most) (leb b mtypes_most)) (both (leb c proctypes_most) (leb d globals_most)) in
    let w = ap₂ either r u ∙ not-both (both (eqb x 0) (eqb y 0)) (both (both (leb 1 s) (leb s processes_most)) (leb k channels_most)) in
    ap₂ either v w ∙ not-both (both (both (leb a statements_most) (leb b mtypes_most)) (both (leb c proctypes_most) (leb d globals_most))) (both (both (eqb x 0) (eqb y 0)) (both (both (leb 1 s) (leb s processes_most)) (leb k channels_most)))

-- ---- a unit is light where its processes have numbers to spare and its printfs are not too wide
light_is : (p : Part) → both (spare p) (tight p) ≡ light p
light_is (mtypes ws) = refl
light_is (global d) = refl
light_is (process x w gs (body ds q)) = refl
light_is (init (body ds q)) = refl

crossed : (a b c d : Bool) → both (both a b) (both c d) ≡ both (both a c) (both b d)
crossed true b true d = refl
crossed true true false d = refl
crossed true false false d = refl
crossed false b c d = refl

all-light : (m : Model) → both (all spare m) (all tight m) ≡ all light m
all-light [] = refl
all-light (p ∷ m) = crossed (spare p) (all spare m) (tight p) (all tight m) ∙ ap₂ both (light_is p) (all-light m)

inside-start : (cs : List ℕ) → inside_of cs 0 ≡ 0
unfolding inside_of
inside-start cs = refl

module _ (m : Model) (cs vs : List ℕ) (S : Says m cs vs) where
  abbrev hs : List ℕ
  hs = homes_of cs (replicate items_most 0)

  homed : (j : ℕ) → j < length cs → get_or hs j 0 ≡ home_of cs j
  homed j h = home_at cs (replicate items_most 0) j h S.few (omega (arith, S.few, length-replicate {A = ℕ} items_most 0))

  long : length cs ≡ length (code m)
  long = ap length S.codes ∙ length-map (code m) code_of

  lain : Lain cs vs 0 (code m)
  lain = model_lain cs vs m S

  whole : (f : ℕ → ℕ) → sum f 0 (length cs) ≡ weigh f 0 (code m)
  whole f = ap (sum f 0) long ∙ sum-weigh f (code m) 0

  ends : 0 + length (code m) ≡ length cs
  ends = omega (arith, long)

  statements_are : total cs vs hs 1 ≡ tally statement_count m
  unfolding total weight
  statements_are = whole (λ j. one 11 (get_or cs j 0)) ∙ mass_at (one 11) cs vs (code m) 0 lain ∙ statements-model m S.known

  messages_are : total cs vs hs 2 ≡ tally message_count m
  unfolding total weight
  messages_are = whole (λ j. one 12 (get_or cs j 0)) ∙ mass_at (one 12) cs vs (code m) 0 lain ∙ messages_model m S.known

  proctypes_are : total cs vs hs 3 ≡ tally proctype_count m
  unfolding total weight
  proctypes_are = whole (λ j. one 13 (get_or cs j 0)) ∙ mass_at (one 13) cs vs (code m) 0 lain ∙ proctypes_model m S.known

  globals_are : numbers cs vs hs 0 ≡ tally global_count m
  unfolding numbers
  globals_are = whole (numbers_at cs vs hs 0) ∙ model-sum cs vs hs homed (numbers_at cs vs hs 0) global_count (globals_part cs vs hs homed) m 0 lain (inside-start cs) ends

  starts_are : total cs vs hs 4 ≡ tally start_count m
  unfolding total weight
  starts_are = whole (starts_at cs vs) ∙ model-sum cs vs hs homed (starts_at cs vs) start_count (starts-part cs vs hs homed) m 0 lain (inside-start cs) ends

  channels_are : total cs vs hs 5 ≡ tally channel_count m
  unfolding total weight
  channels_are = whole (makes_at cs vs hs) ∙ model-sum cs vs hs homed (makes_at cs vs hs) channel_count (channels-part cs vs hs homed) m 0 lain (inside-start cs) ends

  widths_are : eqb (total cs vs hs 6) 0 ≡ all tight m
  unfolding total weight
  widths_are = ap (λ n. eqb n 0) (whole (wide_at cs hs)) ∙ model-none cs vs hs homed (wide_at cs hs) tight (wide-part cs vs hs homed) m 0 lain (inside-start cs) ends

  weights_are : eqb (total cs vs hs 7) 0 ≡ all spare m
  unfolding total weight
  weights_are = ap (λ n. eqb n 0) (whole (heavy_at cs vs hs)) ∙ model-none cs vs hs homed (heavy_at cs vs hs) spare (heavy_part cs vs hs homed) m 0 lain (inside-start cs) ends

  any-passed : any_passed cs vs hs ≡ not (modest m)
  unfolding any_passed modest
  any-passed =
      judged (total cs vs hs 1) (total cs vs hs 2) (total cs vs hs 3) (numbers cs vs hs 0) (total cs vs hs 4) (total cs vs hs 5) (total cs vs hs 7) (total cs vs hs 6)
      ∙ rw (statements_are, messages_are, proctypes_are, globals_are, starts_are, channels_are, widths_are, weights_are, ← all-light m)

  pub passed-modest : passed cs vs ≡ not (modest m)
  unfolding passed
  passed-modest = rw (le-ltb items_most (length cs) S.few) any-passed
