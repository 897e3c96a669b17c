-- THE TABLES OF AN ACCEPTED TEXT TELL ITS STATEMENTS (specs/Told.antt): where they stand, selections and options end where the tree's do, and an option's first statement is found.
use Prim.Native.Nat.{ℕ, suc, ◌+◌}
use native.Mathlib.Omega.{arith}
use mathlib.Core.Path.{◌≡◌, refl, ap, subst, ◌∙◌}
use mathlib.Core.Bool.{true}
use mathlib.Core.List.{List, [], ◌∷◌, ◌++◌, append_assoc}
use lib.ListN.{length}
use borrow.Author.Tests.{eq-eqb, ne_eqb}
use Rattle.base_codes.specs.Codes.{c_end_option, c_fi, c_label, c_od}
use Rattle.spec_grammar.specs.Tree.{Sort, sequence, options, Tree, leaf, select, loop, bare, labelled, end, then, over, option}
use Rattle.base_codes.specs.Items.{Item, i_do, i_end_option, i_fi, i_if, i_label, i_name, i_od, i_option}
use Rattle.base_codes.specs.Sets.{is_closing}
use Rattle.parse_code.specs.Code.{code_leaf, code_tree}
use Rattle.table_layout.specs.Access.{code_of}
use Rattle.step_offers.specs.Offers.{first_of}
use Rattle.read_accepts_proof.specs.Meaning.{Accepts}
use Rattle.agree_eval.proofs.Items.{T}
use Rattle.spec_machine.specs.Sizes.{size_in}
use Rattle.agree_sizes.proofs.Sizes.{size_tree}
use Rattle.spec_machine.specs.Program.{enter}
use Rattle.agree_stage.proofs.Stands.{Lying, lying_front, lying_back, lying_between}
use Rattle.agree_nesting.specs.Full.{Starts, Full}
use Rattle.agree_nesting.proofs.Begun.{sequence_begun}
use Rattle.agree_nesting.proofs.Leaves.{leafy}
use Rattle.agree_nesting.proofs.Matches.{is_if, is_do, is_option}
use Rattle.agree_nesting.proofs.Trees.{tree_balanced}
use Rattle.agree_offers.specs.Told.{Told}
use Rattle.agree_offers.proofs.Counted.{few_options}
use Rattle.agree_offers.proofs.Places.{xs, held_there, known_there, linked_there}
use Rattle.agree_offers.proofs.Firsts.{leaf-told, rest-first, action_second}

closes_if : is_closing 0 c_fi ≡ true
unfolding is_closing
closes_if = refl

closes_do : is_closing 0 c_od ≡ true
unfolding is_closing
closes_do = refl

closes_option : is_closing 2 c_end_option ≡ true
unfolding is_closing
closes_option = refl

module _ (t : List ℕ) (a : Accepts t) where
  abbrev U : List ℕ
  U = T t a

  abbrev L : List Item → ℕ → Type 0
  L x i = Lying (xs t a) 0 x i

  front : (x y : List Item) (i : ℕ) → L (x ++ y) i → L x i
  front x y i p = lying_front (xs t a) x y 0 i p

  back : (x y : List Item) (i k : ℕ) → k ≡ i + length x → L (x ++ y) i → L y k
  back x y i k e p = lying_back (xs t a) x y 0 i k e p

  -- ---- the first statement of an option
  first_labelled : (i : ℕ) → code_of U (suc (suc i)) ≡ c_label → first_of U i ≡ i + 1 + 2
  unfolding first_of
  first_labelled i e =
      let z : i + 2 ≡ suc (suc i) = omega arith in
      rw (eq-eqb (code_of U (i + 2)) c_label (ap (code_of U) z ∙ e)) (omega arith)

  first-bare : (i : ℕ) → (code_of U (suc (i + 1)) ≡ c_label → ⊥) → first_of U i ≡ i + 1
  unfolding first_of
  first-bare i n =
      let z : suc (i + 1) ≡ i + 2 = omega arith in
      rw (ne_eqb (code_of U (i + 2)) c_label (λ e. n (ap (code_of U) z ∙ e)))

  option_first : (q : Tree sequence) (os : Tree options) (i : ℕ) → Starts q → L (code_tree (option q os)) i → first_of U i ≡ enter q (i + 1) 0
  option_first end os i h p = absurd h
  option_first (then (bare x) q) os i h p =
      let R = i_end_option ∷ code_tree os in
      let B = back (i_option ∷ []) ((code_tree x ++ code_tree q) ++ R) i (i + 1) refl p in
      let F = front (code_tree x ++ code_tree q) R (i + 1) B in
      let A = front (code_tree x) (code_tree q) (i + 1) F in
      let j = i + 1 + size_in x in
      let n : j ≡ i + 1 + length (code_tree x) = omega (arith, size_tree x) in
      first-bare i
      (action_second U x (i + 1) (known_there t a (code_tree x) (i + 1) A) (held_there t a (code_tree x) (i + 1) A)
      (rest-first U q (code_tree os) j (known_there t a (code_tree q) j (back (code_tree x) (code_tree q) (i + 1) j n F))
      (held_there t a (code_tree q ++ R) j (back (code_tree x) (code_tree q ++ R) (i + 1) j n (subst (λ (l : List Item). L l (i + 1)) (append_assoc (code_tree x) (code_tree q) R) B)))))
  option_first (then (labelled w x) q) os i h p = first_labelled i (held_there t a (code_tree (option (then (labelled w x) q) os)) i p).2.2.0

  -- ---- trees
  pub told : {k : Sort} (x : Tree k) (i : ℕ) → Full x → L (code_tree x) i → Told U x i
  told (leaf l) i f p = leaf-told U (leafy l) (known_there t a (code_leaf l) i p) i (held_there t a (code_leaf l) i p)
  told (select os) i f p =
      let o = lying_between (xs t a) i_if (code_tree os) i_fi 0 i p in (
        (held_there t a (code_tree (select os)) i p).0,
        linked_there t a 0 i_if i_fi (code_tree os) [] i (is_if refl) closes_if (λ e. absurd (omega arith)) (tree_balanced os f (known_there t a (code_tree os) (i + 1) o)) p ∙ ap (i + 1 +◌) (size_tree os),
        few_options t a os (i + 1) f o,
        told os (i + 1) f o,
      )
  told (loop os) i f p =
      let o = lying_between (xs t a) i_do (code_tree os) i_od 0 i p in (
        (held_there t a (code_tree (loop os)) i p).0,
        linked_there t a 0 i_do i_od (code_tree os) [] i (is_do refl) closes_do (λ e. absurd (omega arith)) (tree_balanced os f (known_there t a (code_tree os) (i + 1) o)) p ∙ ap (i + 1 +◌) (size_tree os),
        few_options t a os (i + 1) f o,
        told os (i + 1) f o,
      )
  told (bare x) i f p = told x i f p
  told (labelled w x) i f p = told x (i + 2) f (back (i_name w ∷ i_label ∷ []) (code_tree x) i (i + 2) refl p)
  told end i f p = tt
  told (then s q) i f p = (told s i f.0 (front (code_tree s) (code_tree q) i p), told q (i + size_in s) f.1 (back (code_tree s) (code_tree q) i (i + size_in s) (omega (arith, size_tree s)) p))
  told over i f p = tt
  told (option q os) i f p =
      let B = back (i_option ∷ []) (code_tree q ++ (i_end_option ∷ code_tree os)) i (i + 1) refl p in
      let Q = front (code_tree q) (i_end_option ∷ code_tree os) (i + 1) B in
      let E = back (code_tree q) (i_end_option ∷ code_tree os) (i + 1) (i + 1 + size_in q) (omega (arith, size_tree q)) B in
      let R = back (i_end_option ∷ []) (code_tree os) (i + 1 + size_in q) (i + 2 + size_in q) (omega arith) E in
      let G = tree_balanced q f.1 (known_there t a (code_tree q) (i + 1) Q) in (
        (held_there t a (code_tree (option q os)) i p).0,
        linked_there t a 2 i_option i_end_option (code_tree q) (code_tree os) i (is_option refl) closes_option (λ e. sequence_begun q f.0) G p ∙ ap (i + 1 +◌) (size_tree q),
        f.0,
        option_first q os i f.0 p,
        told q (i + 1) f.1 Q,
        told os (i + 2 + size_in q) f.2 R,
      )
