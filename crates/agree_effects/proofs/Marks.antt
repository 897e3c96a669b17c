-- A PHRASE LINKS TO ITS MARK: the first item of an expression, a name before its mark and a target all link to the first item behind them that is no part of an expression.
use Prim.Native.Nat.{ℕ, suc, ◌+◌, ◌-◌, ◌≤◌, ◌<◌, min}
use native.Mathlib.Omega.{arith}
use native.Mathlib.Decide.{ℕ_discrete}
use mathlib.Core.Path.{◌≡◌, refl, sym, ap, subst, ◌∙◌}
use mathlib.Core.Bool.{Bool, true, false}
use mathlib.Core.List.{List, [], ◌∷◌, ◌++◌}
use lib.ListN.{length, get_or}
use lib.Dec.{ltb}
use borrow.Author.Tests.{ltb-true, ltb-false}
use Rattle.base_codes.specs.Codes.{c_end, c_false, c_name, c_number, c_text, c_true}
use Rattle.base_bytes.specs.Choice.{pick}
use Rattle.base_bytes.proofs.Tests.{true_false}
use Rattle.spec_grammar.specs.Tree.{Shape, Exp, plain, indexed, num, tru, fls, get, query, unary, binary, choice}
use Rattle.base_codes.specs.Items.{Item, i_binary, i_choice, i_query, i_otherwise, i_unary}
use Rattle.parse_code.specs.Code.{code_exp}
use Rattle.base_codes.specs.Items as items
use Rattle.base_codes.specs.Sets.{is_part, class_of, is_alone}
use Rattle.rule_sheets.specs.Walks.{first}
use Rattle.link_places.specs.Places.{is_mark, mark_from, mark_of}
use Rattle.link_items.specs.Links.{link_by}
use Rattle.link_phrases_proof.specs.Phrases.{At}
use Rattle.link_phrases_proof.proofs.Starts.{at_front}
use Rattle.link_phrases_proof.proofs.Inside.{all_inside}
use Rattle.table_layout.specs.Access.{link_of}
use Rattle.read_passes.specs.Judging.{tables_text}
use Rattle.read_accepts_proof.specs.Meaning.{Accepts}
use Rattle.step_ready.specs.Executing.{is_own_mark}
use Rattle.agree_eval.specs.Names.{codes_at, said_at}
use Rattle.keep_tables.specs.Facts.{homes, starts}
use Rattle.keep_tables.proofs.Tables.{text-held}
use Rattle.keep_tables.proofs.Known.{text_facts}
use Rattle.keep_tables.proofs.Links.{link_is}
use Rattle.keep_tables.proofs.Firsts.{First, first_is, first_most}

-- ---- what an expression begins with
pub data Leaf : ℕ → Type 0 where
  a_name : Leaf c_name
  a_number : Leaf c_number
  a_true : Leaf c_true
  a_false : Leaf c_false

pub leaf-class : {c : ℕ} → Leaf c → class_of c ≡ 5
unfolding class_of
leaf-class a_name = refl
leaf-class a_number = refl
leaf-class a_true = refl
leaf-class a_false = refl

pub leaf-alone : {c : ℕ} → Leaf c → is_own_mark c ≡ false
unfolding is_own_mark is_alone
leaf-alone a_name = refl
leaf-alone a_number = refl
leaf-alone a_true = refl
leaf-alone a_false = refl

pub leaf_no_end : {c : ℕ} → Leaf c → c ≡ c_end → ⊥
leaf_no_end a_name e = omega arith
leaf_no_end a_number e = omega arith
leaf_no_end a_true e = omega arith
leaf_no_end a_false e = omega arith

pub leaf_no_text : {c : ℕ} → Leaf c → c ≡ c_text → ⊥
leaf_no_text a_name e = omega arith
leaf_no_text a_number e = omega arith
leaf_no_text a_true e = omega arith
leaf_no_text a_false e = omega arith

pub begins-leaf : (cs : List ℕ) (i : ℕ) {s : Shape} (e : Exp s) → At cs i (code_exp e) → Leaf (get_or cs i 0)
begins-leaf cs i (plain w) h = subst Leaf (sym h.0) a_name
begins-leaf cs i (indexed w e) h = subst Leaf (sym h.0) a_name
begins-leaf cs i (num n) h = subst Leaf (sym h.0) a_number
begins-leaf cs i tru h = subst Leaf (sym h.0) a_true
begins-leaf cs i fls h = subst Leaf (sym h.0) a_false
begins-leaf cs i (get r) h = begins-leaf cs i r h
begins-leaf cs i (query mk r) h = begins-leaf cs i r (at_front cs i (code_exp r) (i_query mk ∷ []) h)
begins-leaf cs i (unary o e) h = begins-leaf cs i e (at_front cs i (code_exp e) (i_unary o ∷ []) h)
begins-leaf cs i (binary o x y) h = begins-leaf cs i x (at_front cs i (code_exp x) (code_exp y) (at_front cs i (code_exp x ++ code_exp y) (i_binary o ∷ []) h))
begins-leaf cs i (choice x y z) h =
    begins-leaf cs i x
    (at_front cs i (code_exp x) (code_exp y)
    (at_front cs i (code_exp x ++ code_exp y) (i_otherwise ∷ code_exp z) (at_front cs i (code_exp x ++ code_exp y ++ i_otherwise ∷ code_exp z) (i_choice ∷ []) h)))

-- ---- an expression's items are parts
part_unmarked : (c : ℕ) → is_part c ≡ true → is_mark c ≡ false
part_unmarked c e = ap (λ b. pick b false true) e

pub all_parts : (cs : List ℕ) (l : List Item) (i j : ℕ) → all_inside l → At cs i l → i ≤ j → j < i + length l → is_mark (get_or cs j 0) ≡ false
all_parts cs [] i j a h b d = absurd (omega arith)
all_parts cs (x ∷ l) i j a h b d = go (ltb i j) refl (all_parts cs l (suc i) j a.1 h.1)
  where
    go : (c : Bool) → ltb i j ≡ c → (suc i ≤ j → j < suc i + length l → is_mark (get_or cs j 0) ≡ false) → is_mark (get_or cs j 0) ≡ false
    go true q below = let z = ltb-true i j q in below (omega arith) (omega arith)
    go false q below = let z = ltb-false i j q in let w : j ≡ i = omega arith in ap (λ n. is_mark (get_or cs n 0)) w ∙ ap is_mark h.0 ∙ part_unmarked (items.code_of x) a.0

module _ (t : List ℕ) (a : Accepts t) where
  abbrev C : List ℕ
  C = codes_at t a

  mark_link : (m : List ℕ) (q : ℕ) → class_of (get_or C q 0) ≡ 5 → link_by C (said_at t a) (homes C) (starts C) (class_of (get_or C q 0)) m q ≡ mark_of C q
  unfolding link_by
  mark_link m q e = rw e

  mark-first : (i k : ℕ) → i < k → k < length C → ((x : ℕ) → i < x → x < k → is_mark (get_or C x 0) ≡ false) → is_mark (get_or C k 0) ≡ true → mark_of C i ≡ k
  unfolding mark_from
  mark-first i k h g parts mark =
      let f = first_is (λ x. is_mark (get_or C x 0)) (length C - (i + 1)) (i + 1) in
      let m = first_most (λ x. is_mark (get_or C x 0)) (i + 1) (length C - (i + 1)) k (omega arith) mark in
      go (ℕ_discrete (mark_of' i) k) f m
    where
      mark_of' : ℕ → ℕ
      mark_of' i = first (λ x. is_mark (get_or C x 0)) (i + 1) (length C - (i + 1))

      go : Dec (mark_of' i ≡ k) → First (λ x. is_mark (get_or C x 0)) (i + 1) (length C - (i + 1)) (mark_of' i) → mark_of' i ≤ k → mark_of' i ≡ k
      go (yes e) f m = e
      go (no n) f m = let b = f.from in absurd (true_false (sym (f.holds (omega arith)) ∙ parts (mark_of' i) (omega arith) (omega arith)))

  -- item i, which begins a phrase or is a target, and the first mark behind it
  pub link_mark : (i k : ℕ) → i < k → k < length (codes_at t a) → class_of (get_or (codes_at t a) i 0) ≡ 5 → ((x : ℕ) → i < x → x < k → is_mark (get_or (codes_at t a) x 0) ≡ false)
      → is_mark (get_or (codes_at t a) k 0) ≡ true → link_of (tables_text t) i ≡ k
  link_mark i k h g e parts mark =
      let K = text_facts t a in
      let l = link_is C (said_at t a) i K.few (omega arith) in
      let f = K.few in
      (text-held t a).links i (omega arith) ∙ l.1 ∙ ap (min 4294967295) (mark_link l.0 i e ∙ mark-first i k h g parts mark) ∙ (let z : min 4294967295 k ≡ k = omega arith in z)
