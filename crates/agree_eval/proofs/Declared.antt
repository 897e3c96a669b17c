-- In an accepted text an indexed name is a variable that is declared before it (refusals 4 and 5), so the arrays of an expression are.
use Prim.Native.Nat.{ℕ, zero, suc, ◌+◌, ◌≤◌, ◌<◌}
use native.Mathlib.Omega.{arith}
use mathlib.Core.Path.{◌≡◌, refl, sym as inv, ap, ◌∙◌, subst}
use mathlib.Core.Bool.{Bool, true, false}
use mathlib.Core.List.{List, [], ◌∷◌, ◌++◌, map}
use lib.ListN.{length, get_or, length-append, length-replicate}
use lib.Dec.{eqb, ltb}
use borrow.Author.Tests.{ltb-true, ltb-false, eqb-true}
use Rattle.base_ceilings.specs.Ceilings.{items_most}
use Rattle.base_codes.specs.Codes.{c_argument, c_index, c_message, c_name}
use Rattle.base_bytes.specs.Choice.{pick, either}
use Rattle.base_bytes.proofs.Tests.{true_false}
use Rattle.spec_grammar.specs.Tree.{Name, Shape, Exp, plain, indexed, num, tru, fls, get, query, unary, binary, choice}
use Rattle.parse_machine.specs.Machine.{place_of}
use Rattle.rule_sheets.specs.Homes.{inside_of}
use Rattle.rule_sheets.specs.Spans.{starts_of, heights_of}
use Rattle.rule_search.specs.Sets.{among}
use Rattle.rule_search.specs.Search.{lookup}
use Rattle.rule_item.specs.Rules.{role_of, bad_plain, bad_variable, bad_use, bad_ref, bad_by, bad}
use Rattle.rule_least.specs.declared.Fault.TheVariants.{None}
use Rattle.rule_least.specs.Faults.{place, sooner, joined, least_from, least_of, blank, checked}
use Rattle.link_phrases_proof.specs.Phrases.{Proper, At as Stood}
use Rattle.link_phrases_proof.proofs.Starts.{at_front, at_back, some-items, phrase_starts}
use Rattle.read_accepts_proof.specs.Meaning.{Accepts}
use Rattle.agree_stage.specs.Scenes.{size_in}
use Rattle.agree_eval.specs.Names.{codes_at, said_at, homes_at, meant_at, Arrays}
use Rattle.agree_eval.proofs.Codes.{codes_few}
use Rattle.agree_eval.proofs.Main.{items_long}
use Rattle.agree_eval.proofs.Said.{first_said, home_same}
use Rattle.agree_eval.proofs.Names.{Lies, lies_front, lies_back, meaning, means-none}
use Rattle.rule_least.proofs.Theorems.{sooner-some}
use Rattle.base_codes.specs.Items.{Item, i_binary, i_choice, i_index, i_query, i_name, i_otherwise, i_plain, i_unary}
use Rattle.base_codes.specs.Sets.{rule_of}
use Rattle.parse_code.specs.Code.{code_exp, code}

module _ (cs vs hs ss ts toks : List ℕ) where
  none-bad : (j k x : ℕ) → least_from cs vs hs ss ts toks j k ≡ None → j ≤ x → x < j + k → bad cs vs hs ss ts x ≡ 0
  unfolding least_from joined
  none-bad j zero x e b h = absurd (omega arith)
  none-bad j (suc k) x e b h = by (eqb (bad cs vs hs ss ts j) 0) refl e (ltb j x) refl (none-bad (j + 1) k x)
    where
      by : (c : Bool) → eqb (bad cs vs hs ss ts j) 0 ≡ c
          → pick c (least_from cs vs hs ss ts toks (j + 1) k) (sooner (place cs vs hs ss ts toks j) (bad cs vs hs ss ts j) (least_from cs vs hs ss ts toks (j + 1) k)) ≡ None
          → (d : Bool) → ltb j x ≡ d → (least_from cs vs hs ss ts toks (j + 1) k ≡ None → j + 1 ≤ x → x < j + 1 + k → bad cs vs hs ss ts x ≡ 0) → bad cs vs hs ss ts x ≡ 0
      by true q e true l below = let z = ltb-true j x l in below e (omega arith) (omega arith)
      by true q e false l below = let z = ltb-false j x l in let w : x ≡ j = omega arith in ap (bad cs vs hs ss ts) w ∙ eqb-true (bad cs vs hs ss ts j) 0 q
      by false q e d l below = absurd (sooner-some (place cs vs hs ss ts toks j) (bad cs vs hs ss ts j) (least_from cs vs hs ss ts toks (j + 1) k) e)

-- ---- what the rule of an index says
never-zero : (b : Bool) → bad_plain b true ≡ 0 → ⊥
never-zero true e = omega arith
never-zero false e = omega arith

module _ (cs vs hs : List ℕ) where
  use_variable : (m h role : ℕ) → bad_use cs vs hs m h role true ≡ 0 → among 14 (get_or cs (lookup cs vs hs (get_or vs m 0) h m) 0) ≡ true
  unfolding bad_use
  use_variable m h role e = go (eqb (get_or vs m 0) 0) (eqb (get_or cs d 0) c_message) (among 14 (get_or cs d 0)) refl e
    where
      d : ℕ
      d = lookup cs vs hs (get_or vs m 0) h m

      go : (x y z : Bool) → among 14 (get_or cs (lookup cs vs hs (get_or vs m 0) h m) 0) ≡ z
          → pick x (bad_plain (eqb role 0) true)
          (pick y (bad_plain (either (eqb role 0) (eqb role 3)) true) (pick z (bad_variable cs (lookup cs vs hs (get_or vs m 0) h m) role true) 4)) ≡ 0
          → among 14 (get_or cs (lookup cs vs hs (get_or vs m 0) h m) 0) ≡ true
      go true y z q e = absurd (never-zero (eqb role 0) e)
      go false true z q e = absurd (never-zero (either (eqb role 0) (eqb role 3)) e)
      go false false true q e = q
      go false false false q e = absurd (omega arith)

  index_rule : (ss ts : List ℕ) (j : ℕ) → get_or cs j 0 ≡ c_index → bad cs vs hs ss ts j ≡ bad_use cs vs hs (get_or ss j 0) (get_or hs j 0) (role_of (get_or cs (j + 1) 0)) true
  unfolding rule_of bad_by bad_ref
  index_rule ss ts j e = rw e

name_no_variable : among 14 c_name ≡ false
unfolding among
name_no_variable = refl

module _ (t : List ℕ) (a : Accepts t) where
  abbrev xs : List Item
  xs = code a.tree

  abbrev C : List ℕ
  C = codes_at t a

  abbrev S : List ℕ
  S = starts_of C blank

  pub no_fault : (j : ℕ) → j < length C → bad C (said_at t a) (homes_at t a) S (heights_of C S blank) j ≡ 0
  unfolding checked least_of
  no_fault j h = none-bad C (said_at t a) (homes_at t a) S (heights_of C S blank) (map place_of a.numbers) 0 (length C) j a.faultless (omega arith) (omega arith)

  module _ (i n : ℕ) (end : i + n ≤ length C) (low : (x : ℕ) → i ≤ x → x < i + n → get_or C x 0 < c_argument) where
    -- an indexed name, whose items are k to j
    index_means : (w : Name) (e : Exp _) (k j : ℕ) → Proper (indexed w e) → Stood C k (code_exp (indexed w e)) → i ≤ k → j + 1 ≡ k + length (code_exp (indexed w e)) → j < i + n → get_or xs k i_plain ≡ i_name w
        → get_or C j 0 ≡ c_index → among 14 (get_or C (meaning t a i n end low w k) 0) ≡ true
    index_means w e k j p h b q g l c =
        let s = some-items (indexed w e) in
        let v = said_at t a in
        let o = homes_at t a in
        let st : get_or S j 0 ≡ k = phrase_starts C blank (indexed w e) p k j h (codes_few t a) (omega (arith, codes_few t a, length-replicate items_most zero)) (omega arith) (omega arith) in
        let u = use_variable C v o (get_or S j 0) (get_or o j 0) (role_of (get_or C (j + 1) 0)) (inv (index_rule C v o S (heights_of C S blank) j c) ∙ no_fault j (omega arith)) in
        ap (λ y. among 14 (get_or C y 0))
        (ap (λ y. lookup C v o y (inside_of C i) k) (first_said t a w k (omega (arith, items_long t a)) l)
        ∙ ap (λ y. lookup C v o (get_or v k 0) y k) (inv (home_same t a i j (omega arith) (omega (arith, items_long t a)) (λ y d z. low y d (omega arith))))
        ∙ ap (λ y. lookup C v o (get_or v y 0) (get_or o j 0) y) (inv st)) ∙ u

    index_declared : (w : Name) (k : ℕ) → i ≤ k → k < i + n → get_or C k 0 ≡ c_name → among 14 (get_or C (meaning t a i n end low w k) 0) ≡ true → meant_at t a i w < i
    index_declared w k b g c u = go (ltb (meant_at t a i w) i) refl
      where
        go : (d : Bool) → ltb (meant_at t a i w) i ≡ d → meant_at t a i w < i
        go true e = ltb-true (meant_at t a i w) i e
        go false e =
            let l : meant_at t a i w < i → ⊥ = λ z. (let y = ltb-false (meant_at t a i w) i e in omega arith) in
            absurd (true_false (inv u ∙ ap (λ y. among 14 (get_or C y 0)) (means-none t a i n end low w k b g l) ∙ ap (among 14) c ∙ name_no_variable))

    pub arrays_in : {s : Shape} (e : Exp s) (k : ℕ) → Proper e → Lies xs k (code_exp e) → Stood C k (code_exp e) → i ≤ k → k + length (code_exp e) ≤ i + n → Arrays t a i e
    arrays_in (plain w) k p l h b g = tt
    arrays_in (indexed w e) k p l h b g =
        let m = size_in e in
        let z : suc k ≡ k + 1 = omega arith in
        let q : length (code_exp e ++ i_index ∷ []) ≡ m + 1 = length-append (code_exp e) (i_index ∷ []) in
        let j = k + 1 + m in
        let c = (at_back C (code_exp e) (i_index ∷ []) (suc k) j (omega arith) h.1).0 in (
          index_declared w k b (omega arith) h.0 (index_means w e k j p h b (omega arith) (omega arith) l.0 c),
          arrays_in e (k + 1) p (subst (λ y. Lies xs y (code_exp e)) z (lies_front xs (suc k) (code_exp e) (i_index ∷ []) l.1))
              (subst (λ y. Stood C y (code_exp e)) z (at_front C (suc k) (code_exp e) (i_index ∷ []) h.1)) (omega arith) (omega arith),
        )
    arrays_in (num v) k p l h b g = tt
    arrays_in tru k p l h b g = tt
    arrays_in fls k p l h b g = tt
    arrays_in (get v) k p l h b g = arrays_in v k p l h b g
    arrays_in (query mk v) k p l h b g =
        let q : length (code_exp v ++ i_query mk ∷ []) ≡ size_in v + 1 = length-append (code_exp v) (i_query mk ∷ []) in
        arrays_in v k p (lies_front xs k (code_exp v) (i_query mk ∷ []) l) (at_front C k (code_exp v) (i_query mk ∷ []) h) b (omega arith)
    arrays_in (unary o e) k p l h b g =
        let q : length (code_exp e ++ i_unary o ∷ []) ≡ size_in e + 1 = length-append (code_exp e) (i_unary o ∷ []) in
        arrays_in e k p.1 (lies_front xs k (code_exp e) (i_unary o ∷ []) l) (at_front C k (code_exp e) (i_unary o ∷ []) h) b (omega arith)
    arrays_in (binary o x y) k p l h b g =
        let X = code_exp x in
        let Y = code_exp y in
        let m = size_in x in
        let q : length ((X ++ Y) ++ i_binary o ∷ []) ≡ length (X ++ Y) + 1 = length-append (X ++ Y) (i_binary o ∷ []) in
        let q2 : length (X ++ Y) ≡ m + size_in y = length-append X Y in
        let ab = at_front C k (X ++ Y) (i_binary o ∷ []) h in
        let lb = lies_front xs k (X ++ Y) (i_binary o ∷ []) l in (
          arrays_in x k p.2 (lies_front xs k X Y lb) (at_front C k X Y ab) b (omega arith),
          arrays_in y (k + m) p.3 (lies_back xs X Y k (k + m) refl lb) (at_back C X Y k (k + m) refl ab) (omega arith) (omega arith),
        )
    arrays_in (choice x y z) k p l h b g =
        let X = code_exp x in
        let Y = code_exp y in
        let Z = code_exp z in
        let m = size_in x in
        let d = size_in y in
        let q : length (X ++ Y ++ i_otherwise ∷ Z ++ i_choice ∷ []) ≡ length (X ++ Y ++ i_otherwise ∷ Z) + 1 = length-append (X ++ Y ++ i_otherwise ∷ Z) (i_choice ∷ []) in
        let q2 : length (X ++ Y ++ i_otherwise ∷ Z) ≡ length (X ++ Y) + suc (size_in z) = length-append (X ++ Y) (i_otherwise ∷ Z) in
        let q3 : length (X ++ Y) ≡ m + d = length-append X Y in
        let abc = at_front C k (X ++ Y ++ i_otherwise ∷ Z) (i_choice ∷ []) h in
        let lbc = lies_front xs k (X ++ Y ++ i_otherwise ∷ Z) (i_choice ∷ []) l in
        let ab = at_front C k (X ++ Y) (i_otherwise ∷ Z) abc in
        let lb = lies_front xs k (X ++ Y) (i_otherwise ∷ Z) lbc in
        let v : suc (k + m + d) ≡ k + m + d + 1 = omega arith in (
          arrays_in x k p.0 (lies_front xs k X Y lb) (at_front C k X Y ab) b (omega arith),
          arrays_in y (k + m) p.1 (lies_back xs X Y k (k + m) refl lb) (at_back C X Y k (k + m) refl ab) (omega arith) (omega arith),
          arrays_in z (k + m + d + 1) p.2 (subst (λ j. Lies xs j Z) v (lies_back xs (X ++ Y) (i_otherwise ∷ Z) k (k + m + d) (omega arith) lbc).1)
              (subst (λ j. Stood C j Z) v (at_back C (X ++ Y) (i_otherwise ∷ Z) k (k + m + d) (omega arith) abc).1) (omega arith) (omega arith),
        )
