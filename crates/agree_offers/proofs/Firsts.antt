-- The first items of a statement, in the tables of an accepted text: by the first a selection, and `else`, is told from any other; the second is a label only behind the name of one.
use Prim.Native.Nat.{ℕ, suc, ◌+◌, ◌≤◌, ◌<◌}
use native.Mathlib.Omega.{arith}
use mathlib.Core.Path.{◌≡◌, sym as inv, ap, ◌∙◌}
use mathlib.Core.Bool.{Bool, false}
use mathlib.Core.List.{List, [], ◌∷◌, ◌++◌}
use lib.ListN.{length}
use lib.Dec.{eqb}
use borrow.Author.Tests.{ne_eqb}
use Rattle.base_codes.specs.Codes.{c_do, c_else, c_if, c_label}
use Rattle.spec_grammar.specs.Tree.{action, statement, sequence, options, Tree, leaf, select, loop, bare, labelled, end, then, over, option}
use Rattle.base_codes.specs.Items.{Item, i_end_option, i_fi, i_od}
use Rattle.parse_code.specs.Code.{code_leaf, code_tree}
use Rattle.base_codes.specs.Items.{code_of as itemCode}
use Rattle.table_entries.specs.Items.{AllKnown}
use Rattle.table_layout.specs.Access.{code_of}
use Rattle.step_offers.specs.Offers.{is_selection}
use Rattle.agree_eval.specs.Held.{Held}
use Rattle.agree_eval.proofs.Items.{held-front}
use Rattle.agree_eval.proofs.Operators.{known-front}
use Rattle.agree_eval.proofs.Ranges.{Every}
use Rattle.spec_machine.specs.Sizes.{size_in}
use Rattle.agree_sizes.proofs.Sizes.{size-leaf, some-place}
use Rattle.agree_nesting.proofs.Leaves.{InLeaf, part_low, Leafy, led, alone, leaf_codes}

module _ (U : List ℕ) where
  -- ---- no selection, and whether it is `else`
  no_selection : (i : ℕ) → code_of U i < c_if → is_selection U i ≡ false
  no_selection i h = rw (ne_eqb (code_of U i) c_if (λ e. omega arith), ne_eqb (code_of U i) c_do (λ e. omega arith))

  pub leaf-told : {b : Bool} {x : List Item} → Leafy b x → AllKnown x → (i : ℕ) → Held U i x → (is_selection U i ≡ false) × (eqb (code_of U i) c_else ≡ b)
  leaf-told (led [] y n e m q) k i h = absurd (omega arith)
  leaf-told (led (x ∷ p) y n e m q) k i h =
      let z = (part_low (itemCode x) (e.0 k.0)).0 in
      let w = h.0 in
      (no_selection i (omega arith), ne_eqb (code_of U i) c_else (λ v. omega arith))
  leaf-told (alone x s a q) k i h = (let z = a.0 in let w = h.0 in no_selection i (omega arith), ap (λ c. eqb c c_else) h.0)

  -- ---- the first item is no label
  leaf_first : (x : List Item) → Every InLeaf x → AllKnown x → 1 ≤ length x → (i : ℕ) → Held U i x → code_of U i ≡ c_label → ⊥
  leaf_first [] e k n i h z = omega arith
  leaf_first (x ∷ l) e k n i h z = (e.0 k.0).1 (inv h.0 ∙ z)

  action_first : (x : Tree action) (i : ℕ) → AllKnown (code_tree x) → Held U i (code_tree x) → code_of U i ≡ c_label → ⊥
  action_first (leaf l) i k h = leaf_first (code_leaf l) (leaf_codes l) k (omega (arith, size-leaf l, some-place (leaf l))) i h
  action_first (select os) i k h = λ e. (let z = h.0 in omega arith)
  action_first (loop os) i k h = λ e. (let z = h.0 in omega arith)

  statement_first : (x : Tree statement) (i : ℕ) → AllKnown (code_tree x) → Held U i (code_tree x) → code_of U i ≡ c_label → ⊥
  statement_first (bare a) i k h = action_first a i k h
  statement_first (labelled w a) i k h = λ e. (let z = h.0 in omega arith)

  -- of the statements that follow in an option, or its end
  pub rest-first : (q : Tree sequence) (l : List Item) (i : ℕ) → AllKnown (code_tree q) → Held U i (code_tree q ++ (i_end_option ∷ l)) → code_of U i ≡ c_label → ⊥
  rest-first end l i k h = λ e. (let z = h.0 in omega arith)
  rest-first (then s q) l i k h =
      statement_first s i (known-front (code_tree s) (code_tree q) k) (held-front U i (code_tree s) (code_tree q) (held-front U i (code_tree s ++ code_tree q) (i_end_option ∷ l) h))

  -- ---- the second item, or what stands behind a single one
  leaf-second : (x : List Item) → Every InLeaf x → AllKnown x → 1 ≤ length x → (i : ℕ) → Held U i x → (code_of U (i + length x) ≡ c_label → ⊥) → code_of U (suc i) ≡ c_label → ⊥
  leaf-second [] e k n i h b z = omega arith
  leaf-second (x ∷ []) e k n i h b z = b (let y : i + 1 ≡ suc i = omega arith in ap (code_of U) y ∙ z)
  leaf-second (x ∷ y ∷ l) e k n i h b z = (e.1.0 k.1.0).1 (inv h.2.0 ∙ z)

  selection_second : (os : Tree options) (y : Item) (i : ℕ) → (itemCode y ≡ c_label → ⊥) → Held U i (code_tree os ++ (y ∷ [])) → code_of U i ≡ c_label → ⊥
  selection_second over y i n h = λ e. n (inv h.0 ∙ e)
  selection_second (option q os) y i n h = λ e. (let z = h.0 in omega arith)

  -- of a statement without a label, or of what stands behind it
  pub action_second : (x : Tree action) (i : ℕ) → AllKnown (code_tree x) → Held U i (code_tree x) → (code_of U (i + size_in x) ≡ c_label → ⊥) → code_of U (suc i) ≡ c_label → ⊥
  action_second (leaf l) i k h b =
      leaf-second (code_leaf l) (leaf_codes l) k (omega (arith, size-leaf l, some-place (leaf l))) i h (λ z. b (ap (λ n. code_of U (i + n)) (inv (size-leaf l)) ∙ z))
  action_second (select os) i k h b = selection_second os i_fi (suc i) (λ z. omega arith) h.2
  action_second (loop os) i k h b = selection_second os i_od (suc i) (λ z. omega arith) h.2
