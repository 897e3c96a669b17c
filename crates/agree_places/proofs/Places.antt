-- EACH PLACE AMONG THE STATEMENTS OF A BODY IS THE PLACE OF ONE OF THEM, however deep in selections it stands.
use Prim.Native.Nat.{ℕ, ◌+◌, ◌≤◌, ◌<◌}
use native.Mathlib.Omega.{arith}
use mathlib.Core.Path.{◌≡◌, refl, sym as inv, subst}
use mathlib.Core.Bool.{true}
use mathlib.Core.List.{List, [], ◌∷◌, ◌++◌}
use Rattle.spec_grammar.specs.Tree.{Sort, action, sequence, options, Tree, leaf, select, loop, bare, labelled, end, then, over, option}
use Rattle.base_codes.specs.Items.{Item, i_do, i_end_option, i_fi, i_if, i_label, i_name, i_od, i_option}
use Rattle.base_codes.specs.Sets.{is_part, is_alone, is_lead}
use Rattle.parse_code.specs.Code.{code_tree, code}
use Rattle.link_places.specs.Places.{is_place}
use Rattle.read_accepts_proof.specs.Meaning.{Accepts}
use Rattle.spec_machine.specs.Sizes.{size_in}
use Rattle.agree_sizes.proofs.Sizes.{size-leaf, size_tree}
use Rattle.spec_machine.specs.Program.{enter, Within, itself, in_if, in_do, unlabelled, behind_label, in_first, in_rest, in_option, in_others}
use Rattle.agree_nesting.proofs.Leaves.{quiet, none, leafy}
use Rattle.agree_control.proofs.Begins.{Dull, one, dull-label}
use Rattle.agree_places.specs.Stated.{Found}
use Rattle.agree_places.proofs.Quiet.{either_side, C, L, dull-quiet, leafy_lone}
use Rattle.agree_stage.proofs.Stands.{lying_front, lying_back, lying_between}

closing-dull : Dull (i_fi ∷ []) × Dull (i_od ∷ []) × Dull (i_option ∷ []) × Dull (i_end_option ∷ [])
unfolding quiet is_part is_alone is_lead
closing-dull = (one i_fi (refl, refl) none, one i_od (refl, refl) none, one i_option (refl, refl) none, one i_end_option (refl, refl) none)

module _ (t : List ℕ) (a : Accepts t) where
  abbrev X : List Item
  X = code a.tree

  option_front : (q : Tree sequence) (os : Tree options) (i : ℕ) → L t a (code_tree (option q os)) i → L t a (i_option ∷ code_tree q) i
  option_front q os i p = lying_front X (i_option ∷ code_tree q) (i_end_option ∷ code_tree os) 0 i p

  option_tail : (q : Tree sequence) (os : Tree options) (i : ℕ) → L t a (code_tree (option q os)) i → L t a (i_end_option ∷ code_tree os) (i + 1 + size_in q)
  option_tail q os i p = lying_back X (i_option ∷ code_tree q) (i_end_option ∷ code_tree os) 0 i (i + 1 + size_in q) (omega (arith, size_tree q)) p

  -- a selection itself, or what stands between its brackets
  bracketed : (b : Tree action) (y : Item) (os : Tree options) (z : Item) (i n o : ℕ) → L t a (y ∷ code_tree os ++ z ∷ []) i → Dull (z ∷ []) → (x : ℕ) → i ≤ x → x < i + (size_in os + 2) → is_place (C t a) x ≡ true
      → (i + 1 ≤ x → x < i + 1 + size_in os → Found action b i n o x) → Found action b i n o x
  bracketed b y os z i n o p d x g h e f =
      either_side x (i + 1) (λ v. (b, n, o, subst (λ j. Within action b i n o b j n o) (let w : i ≡ x = omega arith in w) itself))
      (λ v. either_side x (i + 1 + size_in os) (λ w. f v w)
      (λ w. absurd (dull-quiet t a (i + 1 + size_in os) (λ k. d) (lying_back X (y ∷ code_tree os) (z ∷ []) 0 i (i + 1 + size_in os) (omega (arith, size_tree os)) p) x w (omega arith) e)))

  pub places_in : {k : Sort} (b : Tree k) (i n o : ℕ) → L t a (code_tree b) i → (x : ℕ) → i ≤ x → x < i + size_in b → is_place (C t a) x ≡ true → Found k b i n o x
  places_in (leaf l) i n o p x g h e =
      (leaf l, n, o, subst (λ y. Within action (leaf l) i n o (leaf l) y n o) (inv (leafy_lone t a i (leafy l) p x g (omega (arith, size-leaf l)) e)) itself)
  places_in (select os) i n o p x g h e =
      bracketed (select os) i_if os i_fi i n o p closing-dull.0 x g h e (λ v w. let f = places_in os (i + 1) n o (lying_between X i_if (code_tree os) i_fi 0 i p) x v w e in (f.0, f.1, f.2, in_if f.3))
  places_in (loop os) i n o p x g h e =
      bracketed (loop os) i_do os i_od i n o p closing-dull.1 x g h e (λ v w. let f = places_in os (i + 1) i n (lying_between X i_do (code_tree os) i_od 0 i p) x v w e in (f.0, f.1, f.2, in_do f.3))
  places_in (bare b) i n o p x g h e = let f = places_in b i n o p x g h e in (f.0, f.1, f.2, unlabelled f.3)
  places_in (labelled w b) i n o p x g h e =
      either_side x (i + 2) (λ v. absurd (dull-quiet t a i (λ k. dull-label w) (lying_front X (i_name w ∷ i_label ∷ []) (code_tree b) 0 i p) x g v e))
      (λ v. let f = places_in b (i + 2) n o (lying_back X (i_name w ∷ i_label ∷ []) (code_tree b) 0 i (i + 2) refl p) x v (omega arith) e in (f.0, f.1, f.2, behind_label f.3))
  places_in end i n o p x g h e = absurd (omega arith)
  places_in (then s q) i n o p x g h e =
      either_side x (i + size_in s)
      (λ v. let f = places_in s i (enter q (i + size_in s) n) o (lying_front X (code_tree s) (code_tree q) 0 i p) x g v e in (f.0, f.1, f.2, in_first f.3))
      (λ v. let f = places_in q (i + size_in s) n o (lying_back X (code_tree s) (code_tree q) 0 i (i + size_in s) (omega (arith, size_tree s)) p) x v (omega arith) e in (f.0, f.1, f.2, in_rest f.3))
  places_in over i n o p x g h e = absurd (omega arith)
  places_in (option q os) i n o p x g h e =
      let r = option_front q os i p in
      let u = option_tail q os i p in
      either_side x (i + 1) (λ v. absurd (dull-quiet t a i (λ k. closing-dull.2) (lying_front X (i_option ∷ []) (code_tree q) 0 i r) x g v e))
      (λ v. either_side x (i + 1 + size_in q) (λ w. let f = places_in q (i + 1) n o (lying_back X (i_option ∷ []) (code_tree q) 0 i (i + 1) refl r) x v w e in (f.0, f.1, f.2, in_option f.3))
      (λ w. either_side x (i + 2 + size_in q)
      (λ z. absurd (dull-quiet t a (i + 1 + size_in q) (λ k. closing-dull.3) (lying_front X (i_end_option ∷ []) (code_tree os) 0 (i + 1 + size_in q) u) x w (omega arith) e))
      (λ z. let f = places_in os (i + 2 + size_in q) n o (lying_back X (i_end_option ∷ []) (code_tree os) 0 (i + 1 + size_in q) (i + 2 + size_in q) (omega arith) u) x z (omega arith) e in (f.0, f.1, f.2, in_others f.3))))
