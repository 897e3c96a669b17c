-- Among the items of a tree every label item is the label of a statement; among those of declarations there is none.
use Prim.Native.Nat.{ℕ, suc, ◌+◌, ◌-◌, ◌≤◌, ◌<◌}
use native.Mathlib.Omega.{arith}
use mathlib.Core.Path.{◌≡◌, refl, sym, ap, ◌∙◌, subst}
use mathlib.Core.Logic.{inl, inr}
use mathlib.Core.List.{List, [], ◌∷◌, ◌++◌}
use lib.ListN.{get_or}
use Rattle.base_codes.specs.Codes.{c_label}
use Rattle.spec_grammar.specs.Tree.{Name, Sort, options, Tree, leaf, select, loop, bare, labelled, end, then, over, option, Declaration, Group}
use Rattle.base_codes.specs.Items.{Item, code_of, i_do, i_end_option, i_fi, i_if, i_local, i_name, i_od, i_option}
use Rattle.parse_code.specs.Code.{each, code_leaf, code_tree, code_declaration, code_group}
use Rattle.table_entries.specs.Items.{AllKnown}
use Rattle.link_phrases_proof.specs.Phrases.{At}
use Rattle.link_phrases_proof.proofs.Starts.{at_front, at_back}
use Rattle.agree_eval.proofs.Operators.{known-front, known-back}
use Rattle.agree_eval.proofs.Ranges.{Every, every_lift, InDeclaration, local_codes, InGroup, groups_codes}
use Rattle.spec_machine.specs.Sizes.{size_in}
use Rattle.agree_sizes.proofs.Sizes.{size-leaf, size_tree}
use Rattle.agree_nesting.proofs.Leaves.{InLeaf, leaf_codes}
use Rattle.agree_stage.proofs.Labels.{Labelled}
use Rattle.agree_places.proofs.Quiet.{either_side, every_at}

-- ---- items that are no label
abbrev pub NoLabel : ℕ → Type 0
NoLabel c = c ≡ c_label → ⊥

abbrev pub Bare : List Item → Type 0
Bare l = Every NoLabel l

-- ---- declarations
pub bare-declarations : (ds : List Declaration) → Bare (each (code_declaration i_local) ds)
bare-declarations ds = every_lift InDeclaration NoLabel (λ c h z. let y = h.2 (omega arith) in omega arith) (each (code_declaration i_local) ds) (local_codes ds)

pub bare_groups : (gs : List Group) → Bare (each code_group gs)
bare_groups gs = every_lift InGroup NoLabel (λ c h z. let y = h.2 (omega arith) in omega arith) (each code_group gs) (groups_codes gs)

-- ---- statements
-- a label item stands here, with the name of a label of the tree before it
abbrev pub Label : {k : Sort} → Tree k → ℕ → ℕ → Type 0
Label b i x = (w : Name) × Labelled w b i (x + 1)

module _ (cs : List ℕ) where
  no_label : (y : Item) (i x : ℕ) → get_or cs i 0 ≡ code_of y → (code_of y ≡ c_label → ⊥) → get_or cs x 0 ≡ c_label → x ≡ i → ⊥
  no_label y i x h n e z = n (sym h ∙ ap (λ j. get_or cs j 0) (sym z) ∙ e)

  -- a label item between the brackets of a selection
  bracketed : {R : Type 0} (b : Item) (os : Tree options) (z : Item) → (code_of b ≡ c_label → ⊥) → (code_of z ≡ c_label → ⊥) → (i x : ℕ) → At cs i (b ∷ code_tree os ++ z ∷ []) → i ≤ x → x < i + (size_in os + 2)
      → get_or cs x 0 ≡ c_label → (At cs (i + 1) (code_tree os) → i + 1 ≤ x → x < i + 1 + size_in os → R) → R
  bracketed b os z nb nz i x h g d e f =
      either_side x (i + 1) (λ v. absurd (no_label b i x h.0 nb e (omega arith)))
      (λ v. either_side x (i + 1 + size_in os) (λ w. f (subst (λ j. At cs j (code_tree os)) (let y : suc i ≡ i + 1 = omega arith in y) (at_front cs (suc i) (code_tree os) (z ∷ []) h.1)) v w)
      (λ w. absurd (no_label z (i + 1 + size_in os) x (at_back cs (b ∷ code_tree os) (z ∷ []) i (i + 1 + size_in os) (omega (arith, size_tree os)) h).0 nz e (omega arith))))

  pub label_there : {k : Sort} (b : Tree k) (i x : ℕ) → AllKnown (code_tree b) → At cs i (code_tree b) → i ≤ x → x < i + size_in b → get_or cs x 0 ≡ c_label → Label b i x
  unfolding Labelled
  label_there (leaf l) i x k h g d e =
      absurd ((every_at InLeaf cs (code_leaf l) i x (leaf_codes l) k h g (omega (arith, size-leaf l))).1 e)
  label_there (select os) i x k h g d e =
      bracketed i_if os i_fi (λ z. omega arith) (λ z. omega arith) i x h g d e (λ m v w. label_there os (i + 1) x (known-front (code_tree os) (i_fi ∷ []) k.1) m v w e)
  label_there (loop os) i x k h g d e =
      bracketed i_do os i_od (λ z. omega arith) (λ z. omega arith) i x h g d e (λ m v w. label_there os (i + 1) x (known-front (code_tree os) (i_od ∷ []) k.1) m v w e)
  label_there (bare a) i x k h g d e = label_there a i x k h g d e
  label_there (labelled w a) i x k h g d e =
      either_side x (i + 1) (λ v. absurd (no_label (i_name w) i x h.0 (λ z. omega arith) e (omega arith)))
      (λ v. either_side x (i + 2) (λ z. (w, inl (refl, omega arith)))
      (λ z. let r = label_there a (i + 2) x k.1.1 (subst (λ j. At cs j (code_tree a)) (let y : suc (suc i) ≡ i + 2 = omega arith in y) h.1.1) z (omega arith) e in (r.0, inr r.1)))
  label_there end i x k h g d e = absurd (omega arith)
  label_there (then s q) i x k h g d e =
      either_side x (i + size_in s) (λ v. let r = label_there s i x (known-front (code_tree s) (code_tree q) k) (at_front cs i (code_tree s) (code_tree q) h) g v e in (r.0, inl r.1))
      (λ v. let r = label_there q (i + size_in s) x (known-back (code_tree s) (code_tree q) k) (at_back cs (code_tree s) (code_tree q) i (i + size_in s) (omega (arith, size_tree s)) h) v (omega arith) e in
      (r.0, inr r.1))
  label_there over i x k h g d e = absurd (omega arith)
  label_there (option q os) i x k h g d e =
      let O = i_option ∷ code_tree q in
      let E = i_end_option ∷ code_tree os in
      let front = at_front cs i O E h in
      let back = at_back cs O E i (i + 1 + size_in q) (omega (arith, size_tree q)) h in
      either_side x (i + 1) (λ v. absurd (no_label i_option i x h.0 (λ z. omega arith) e (omega arith)))
      (λ v. either_side x (i + 1 + size_in q)
      (λ w. let r = label_there q (i + 1) x (known-front O E k).1 (subst (λ j. At cs j (code_tree q)) (let z : suc i ≡ i + 1 = omega arith in z) front.1) v w e in (r.0, inl r.1))
      (λ w. either_side x (i + 2 + size_in q) (λ z. absurd (no_label i_end_option (i + 1 + size_in q) x back.0 (λ y. omega arith) e (omega arith)))
      (λ z. let r = label_there os (i + 2 + size_in q) x (known-back O E k).1 (subst (λ j. At cs j (code_tree os)) (let y : suc (i + 1 + size_in q) ≡ i + 2 + size_in q = omega arith in y) back.1) z (omega arith) e in
      (r.0, inr r.1))))
