-- A STATEMENT THAT IS NO SELECTION, at its place in the tables of an accepted text: it is a `run` without room there exactly where the tree's statement is.
use Prim.Native.Nat.{ℕ, ◌+◌}
use native.Mathlib.Omega.{arith}
use mathlib.Core.Path.{◌≡◌, refl, sym as inv, ap, subst, ◌∙◌}
use mathlib.Core.Bool.{Bool, true, false, not}
use mathlib.Core.List.{List, [], ◌∷◌, ◌++◌, append_assoc}
use lib.ListN.{length}
use lib.IntN.{ℤ}
use borrow.Author.Tests.{ne_eqb}
use Rattle.base_codes.specs.Codes.{c_run}
use Rattle.base_codes.specs.Items.{Item, i_assert, i_assign, i_break, i_decrement, i_else, i_express, i_goto, i_increment, i_name, i_skip, i_target, i_timeout}
use Rattle.base_codes.specs.Items as items
use Rattle.base_bytes.specs.Choice.{pick}
use Rattle.base_bytes.proofs.Tests.{both_true}
use Rattle.spec_grammar.specs.Tree.{Name, Ref, leaf, Leaf, express, assign, increment, decrement, send, receive, assert, print, skip, goto, break, timeout, else, run, set_run}
use Rattle.parse_code.specs.Code.{code_exp, code_leaf, code}
use Rattle.spec_rules.specs.Statements.{Place, all, sense}
use Rattle.legal_rules.specs.Expressions.{whole}
use Rattle.legal_rules.specs.Statements.{runs, leaf_allowed}
use Rattle.spec_account.specs.Bytes.{each_visible}
use Rattle.spec_account.specs.Statements.{statement_text}
use Rattle.read_passes.specs.Judging.{tables_text}
use Rattle.read_accepts_proof.specs.Meaning.{Accepts}
use Rattle.table_layout.specs.Access.{code_of, link_of}
use Rattle.step_ready.specs.Executing.{is_own_mark, mark_of, fits_of}
use Rattle.agree_stage.specs.Scenes.{size_in}
use Rattle.agree_stage.proofs.Stands.{lying_back}
use Rattle.agree_effects.specs.Stages.{unit_at}
use Rattle.agree_effects.proofs.Parts.{Here, first_code}
use Rattle.agree_effects.proofs.Phrases.{Refers, refers-target, refers_increment, refers_decrement}
use Rattle.agree_effects.proofs.Lists.{mark_code}
use Rattle.agree_effects.proofs.Begins.{marks, alones, alone-mark, phrase_mark, name-mark}
use Rattle.agree_effects.proofs.Shapes.{reference_there, sending, receiving, printing, running, set_running}
use Rattle.show_statement.specs.Statements.{seen_in}
use Rattle.show_waits.specs.Waits.{is_stuck}
use Rattle.agree_waits.proofs.Walks.{Paired, One}

module _ (t : List ℕ) (a : Accepts t) (s : List ℤ) (j : ℕ) where
  abbrev T : List ℕ
  T = tables_text t

  -- the mark at m has another code
  unmarked : (m c : ℕ) → mark_of T j ≡ m → code_of T m ≡ c → (c ≡ c_run → ⊥) → is_stuck T s j ≡ false
  unfolding is_stuck
  unmarked m c e g h = rw (e, g, ne_eqb c c_run h)

  -- the mark at m is that of a `run` of the unit u
  marked : (m u : ℕ) → mark_of T j ≡ m → code_of T m ≡ c_run → link_of T m ≡ u → is_stuck T s j ≡ not (fits_of T s u)
  unfolding is_stuck
  marked m u e g h = rw (e, g, h)

  none : (m c : ℕ) → mark_of T j ≡ m → code_of T m ≡ c → (c ≡ c_run → ⊥) → Paired T (pick (is_stuck T s j) (j ∷ []) []) []
  none m c e g h = rw (unmarked m c e g h) tt

  alone : (x : Item) (l : List Item) → Here t a (x ∷ l) j → is_own_mark (items.code_of x) ≡ true → (items.code_of x ≡ c_run → ⊥) → Paired T (pick (is_stuck T s j) (j ∷ []) []) []
  alone x l h o n = none j (items.code_of x) (alone-mark t a x l j h o) (first_code t a x l j h) n

  refers : (r : Ref) (x : Item) (z : List Item) → Refers x → Here t a (code_exp r ++ x ∷ z) j → (items.code_of x ≡ c_run → ⊥) → Paired T (pick (is_stuck T s j) (j ∷ []) []) []
  refers r x z b h n = let g = reference_there t a r x z j b h in none (j + size_in r) (items.code_of x) g.mark g.coded n

  module _ (room : Name → Bool) (at : Place) (agrees : (w : Name) (n : ℕ) → runs at w n ≡ true → room w ≡ fits_of (tables_text t) s (unit_at t a w)) where
    pub leaf-waits : (l : Leaf) → Here t a (code_leaf l) j → (loops first : Bool) → leaf_allowed at loops first l ≡ true → seen_in (tables_text t) j ≡ each_visible (statement_text (leaf l)) → One (tables_text t) s room l j
    leaf-waits (express e) h lo fi law v = none (j + size_in e) (items.code_of i_express) (phrase_mark t a e i_express [] j h marks.0) (mark_code t a e i_express [] j h) (λ z. omega arith)
    leaf-waits (assign r e) h lo fi law v =
        refers r i_target (code_exp e ++ i_assign ∷ []) refers-target (subst (λ l. Here t a l j) (append_assoc (code_exp r) (i_target ∷ code_exp e) (i_assign ∷ [])) h) (λ z. omega arith)
    leaf-waits (increment r) h lo fi law v = refers r i_increment [] refers_increment h (λ z. omega arith)
    leaf-waits (decrement r) h lo fi law v = refers r i_decrement [] refers_decrement h (λ z. omega arith)
    leaf-waits (send o r es) h lo fi law v = let g = (sending t a o r es j h).0 in none (j + size_in r) _ g.mark g.coded (λ z. omega arith)
    leaf-waits (receive o r xs) h lo fi law v = let g = (receiving t a o r xs j h).0 in none (j + size_in r) _ g.mark g.coded (λ z. omega arith)
    leaf-waits (assert e) h lo fi law v = none (j + size_in e) (items.code_of i_assert) (phrase_mark t a e i_assert [] j h marks.1) (mark_code t a e i_assert [] j h) (λ z. omega arith)
    leaf-waits (print w es) h lo fi law v = let g = printing t a w es j h in none j _ g.mark g.coded (λ z. omega arith)
    leaf-waits skip h lo fi law v = alone i_skip [] h alones.0 (λ z. omega arith)
    leaf-waits (goto w) h lo fi law v =
        none (j + 1) (items.code_of i_goto) (name-mark t a w i_goto [] j h marks.2) (first_code t a i_goto [] (j + 1) (lying_back (code a.tree) (i_name w ∷ []) (i_goto ∷ []) 0 j (j + 1) refl h)) (λ z. omega arith)
    leaf-waits break h lo fi law v = alone i_break [] h alones.1 (λ z. omega arith)
    leaf-waits timeout h lo fi law v = alone i_timeout [] h alones.2 (λ z. omega arith)
    leaf-waits else h lo fi law v = alone i_else [] h alones.3 (λ z. omega arith)
    leaf-waits (run w es) h lo fi law v =
        let g = running t a w es j h in
        go (room w) (marked (j + 1) (unit_at t a w) g.0 g.1.coded g.1.begun ∙ ap not (inv (agrees w (length es) (both_true (runs at w (length es)) (all (whole (sense at)) es) law).0)))
      where
        go : (b : Bool) → is_stuck T s j ≡ not b → Paired T (pick (is_stuck T s j) (j ∷ []) []) (pick b [] (leaf (run w es) ∷ []))
        go true e = rw e tt
        go false e = rw e v
    leaf-waits (set_run r w es) h lo fi law v = let g = (set_running t a r w es j h).0 in none (j + size_in r) (items.code_of i_target) g.mark g.coded (λ z. omega arith)
