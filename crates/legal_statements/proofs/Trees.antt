-- THE ITEMS OF A TREE have the faults of the specification.
use Prim.Native.Nat.{ℕ, suc, ◌+◌, ◌-◌}
use native.Mathlib.Omega.{arith}
use mathlib.Core.Path.{◌≡◌, refl, sym, ap, subst, ◌∙◌}
use mathlib.Core.Bool.{Bool, true, false}
use mathlib.Core.List.{List, [], ◌∷◌, ◌++◌, append-nil, map-append}
use lib.ListN.{length, get_or, length-map}
use lib.Dec.{eqb}
use Rattle.base_codes.specs.Codes.{c_do, c_fi, c_if, c_od, c_option}
use Rattle.base_bytes.specs.Choice.{both, either}
use Rattle.base_kinds.specs.Kinds.{Token}
use Rattle.rule_item.specs.Rules.{twin}
use Rattle.spec_grammar.specs.Tree.{Name, Sort, Tree}
use Rattle.spec_grammar.specs.Grammar.{D, s_leaf, s_if, s_do, s_bare, s_label, q_last, q_then, o_last, o_also}
use Rattle.base_codes.specs.Items.{Item, code_of, i_do, i_end_option, i_fi, i_if, i_label, i_name, i_od, i_option}
use Rattle.parse_code.specs.Code.{code_tree}
use Rattle.parse_spots.specs.Spots.{Spot, items, spots_tree}
use Rattle.parse_spots.proofs.Coded.{tree_code}
use Rattle.spec_rules.specs.Statements.{is_else_lem, labels_of}
use Rattle.spec_faults.specs.Faults.{in_tree}
use Rattle.legal_statements.specs.Scene.{Scene, faults, StandsIn, SpotsIn}
use Rattle.legal_statements.proofs.Stands.{front, back, next, erased, code_at, code_of_lem, faults-first, faults-both, free_first, free_last}
use Rattle.legal_statements.proofs.Phrases.{rules_none}
use Rattle.legal_statements.proofs.Walks.{twin_out, twin-outside}
use Rattle.legal_statements.proofs.Passing.{least, Passing, pass_label, passing}
use Rattle.legal_statements.proofs.Around.{silent, Prior, Deep, Around, Goes, else_never, else_first, prior_next, deep-next, deep_loop, prior_over, deep-over, statement_ends, option_seen, label-fault}
use Rattle.legal_statements.proofs.Statements.{leaf-fault}

pub as_long : {k : Sort} {ts : List Token} {t : Tree k} (x : D k ts t) (n : ℕ) → length (spots_tree x n) ≡ length (code_tree t)
as_long x n = sym (length-map (spots_tree x n) (λ (s : Spot). s.0)) ∙ ap length (tree_code x n)

module _ (S : Scene) where
  -- the items of a tree without their tokens
  pub coded : {k : Sort} {ts : List Token} {t : Tree k} (x : D k ts t) (i n : ℕ) → SpotsIn S i (spots_tree x n) → StandsIn S i (code_tree t)
  coded x i n s = subst (λ (l : List Item). StandsIn S i l) (tree_code x n) (erased S (spots_tree x n) i s)

  passed : {k : Sort} {ts : List Token} {t : Tree k} (x : D k ts t) (i j n : ℕ) → j ≡ i + length (spots_tree x n) → SpotsIn S i (spots_tree x n) → Passing S i j (labels_of t) (least k)
  passed {t = t} x i j n e s = passing S t i j (omega (arith, as_long x n)) (coded x i n s)

  -- at the front of a selection no option is seen
  none_seen : (x : Item) (l : List Item) (i : ℕ) → StandsIn S i (x ∷ l) → either (eqb (code_of x) c_fi) (eqb (code_of x) c_od) ≡ false → either (eqb (code_of x) c_if) (eqb (code_of x) c_do) ≡ true
      → eqb (code_of x) c_option ≡ false → twin S.cs (suc i) 1 ≡ false
  none_seen x l i s a b c = twin_out S.cs i 1 (code_of x) (code_at S x l i s) (omega arith) a b c ∙ twin-outside S.cs i

  module _ (goes : Goes S) where
    pub tree_fault : {k : Sort} {ts : List Token} {t : Tree k} (x : D k ts t) (i n : ℕ) (loops may : Bool) (ls : List Name) → SpotsIn S i (spots_tree x n) → Prior S i ls → Deep S i loops
        → Around S k i may → faults S i (spots_tree x n) ≡ in_tree S.at ls loops may x n
    unfolding in_tree
    tree_fault (s_leaf x) i n loops may ls s p d h = leaf-fault S x loops may i n s goes d h
    tree_fault (s_if x) i n loops may ls s p d h =
        let X = spots_tree x (n + 1) in
        let a : Spot = (i_if, n) in
        let b : Spot = (i_fi, n) in
        let R = X ++ b ∷ [] in
        let si = erased S (a ∷ R) i s in
        let r = next S a R i s in
        free_first S a R i s silent.2
        ∙ free_last S X b (suc i) (suc i + length X) refl r silent.3
        (tree_fault x (suc i) (n + 1) loops true ls (front S X (b ∷ []) (suc i) r) (prior_next S i_if (items R) i ls si refl p) (deep-next S i_if (items R) i loops si refl refl d)
        (none_seen i_if (items R) i si refl refl refl))
    tree_fault (s_do x) i n loops may ls s p d h =
        let X = spots_tree x (n + 1) in
        let a : Spot = (i_do, n) in
        let b : Spot = (i_od, n) in
        let R = X ++ b ∷ [] in
        let si = erased S (a ∷ R) i s in
        let r = next S a R i s in
        free_first S a R i s silent.4
        ∙ free_last S X b (suc i) (suc i + length X) refl r silent.5
        (tree_fault x (suc i) (n + 1) true true ls (front S X (b ∷ []) (suc i) r) (prior_next S i_do (items R) i ls si refl p) (deep_loop S (items R) i loops si d)
        (none_seen i_do (items R) i si refl refl refl))
    tree_fault (s_bare x) i n loops may ls s p d h = tree_fault x i n loops may ls s p d h
    tree_fault (s_label {w = w} x) i n loops may ls s p d h =
        let X = spots_tree x (n + 2) in
        let a : Spot = (i_name w, n) in
        let b : Spot = (i_label, n) in
        let r = next S a (b ∷ X) i s in
        let k = suc (suc i) in
        let q = pass_label S w (items X) i (erased S (a ∷ b ∷ X) i s) in
        let z : k - 1 ≡ suc i = omega arith in
        free_first S a (b ∷ X) i s rules_none.0
        ∙ faults-first S b X (suc i) (label-fault S w X i n ls s p)
        (tree_fault x k (n + 2) loops false (ls ++ w ∷ []) (next S b X (suc i) r) (prior_over S i k ls (w ∷ []) 1 q p) (deep-over S i k (w ∷ []) 1 loops q d)
        (else_never S k (ap (λ m. eqb (get_or S.cs m 0) c_option) z ∙ ap (λ c. eqb c c_option) (code_of_lem S b X (suc i) r))))
    tree_fault (q_last x u) i n loops may ls s p d h =
        let X = spots_tree x n in
        ap (faults S i) (append-nil X) ∙ tree_fault x i n loops may ls (front S X [] i s) p d h
    tree_fault (q_then {ts = ts} {us = us} {s = t} x u y) i n loops may ls s p d h =
        let X = spots_tree x n in
        let m = n + length ts + length us in
        let Y = spots_tree y m in
        let k = i + length X in
        let sx = front S X Y i s in
        let q = passed x i k n refl sx in
        faults-both S X Y i k refl (tree_fault x i n loops may ls sx p d h)
        (tree_fault y k m loops false (ls ++ labels_of t) (back S X Y i k refl s) (prior_over S i k ls (labels_of t) 1 q p) (deep-over S i k (labels_of t) 1 loops q d)
        (else_never S k (statement_ends S t i k (omega (arith, as_long x n)) (coded x i n sx))))
    tree_fault (o_last x) i n loops may ls s p d h =
        let X = spots_tree x (n + 1) in
        let a : Spot = (i_option, n) in
        let b : Spot = (i_end_option, n) in
        let R = X ++ b ∷ [] in
        let si = erased S (a ∷ R) i s in
        let r = next S a R i s in
        free_first S a R i s silent.6
        ∙ free_last S X b (suc i) (suc i + length X) refl r silent.7
        (tree_fault x (suc i) (n + 1) loops may ls (front S X (b ∷ []) (suc i) r) (prior_next S i_option (items R) i ls si refl p) (deep-next S i_option (items R) i loops si refl refl d)
        (else_first S i may (code_of_lem S a R i s) h))
    tree_fault (o_also {ts = ts} {q = t} x y) i n loops may ls s p d h =
        let X = spots_tree x (n + 1) in
        let m = n + length ts + 1 in
        let Y = spots_tree y m in
        let a : Spot = (i_option, n) in
        let b : Spot = (i_end_option, n) in
        let R = X ++ b ∷ Y in
        let k = suc i + length X in
        let si = erased S (a ∷ R) i s in
        let r = next S a R i s in
        let sx = front S X (b ∷ Y) (suc i) r in
        let se = back S X (b ∷ Y) (suc i) k refl r in
        let sei = erased S (b ∷ Y) k se in
        let q = passed x (suc i) k (n + 1) refl sx in
        let pi = prior_next S i_option (items R) i ls si refl p in
        let di = deep-next S i_option (items R) i loops si refl refl d in
        let z : items R ≡ code_tree t ++ (i_end_option ∷ items Y) = simp (map-append, tree_code x (n + 1)) in
        free_first S a R i s silent.6
        ∙ faults-both S X (b ∷ Y) (suc i) k refl (tree_fault x (suc i) (n + 1) loops may ls sx pi di (else_first S i may (code_of_lem S a R i s) h))
        (free_first S b Y k se silent.7
        ∙ tree_fault y (suc k) m loops (both may (eqb (is_else_lem t) 0)) (ls ++ labels_of t) (next S b Y k se)
        (prior_next S i_end_option (items Y) k (ls ++ labels_of t) sei refl (prior_over S (suc i) k ls (labels_of t) 1 q pi))
        (deep-next S i_end_option (items Y) k loops sei refl refl (deep-over S (suc i) k (labels_of t) 1 loops q di))
        (option_seen S t (items Y) i k may (omega (arith, as_long x (n + 1))) (subst (λ (l : List Item). StandsIn S i (i_option ∷ l)) z si) h))
