-- EXPRESSIONS AND REFERENCES: where one is asked for, the walk over its items writes it as `print_exp` does.
use Prim.Native.Nat.{ℕ, zero, suc, ◌+◌, ◌-◌, ◌≤◌, ◌<◌}
use native.Mathlib.Omega.{arith}
use native.Mathlib.Decide.{dec_lt}
use mathlib.Core.Path.{◌≡◌, refl, ◌∙◌, ap, sym as inv}
use mathlib.Core.Bool.{Bool, true, false}
use mathlib.Core.Logic.{◌⊎◌, inl, inr}
use mathlib.Core.List.{List, [], ◌∷◌, ◌++◌, append_assoc}
use lib.ListN.{length, get_or, length-append}
use lib.Dec.{eqb, ltb, leb}
use borrow.Author.Tests.{lt-ltb, le-ltb, ne_eqb, leb-true, leb-false, eqb-true}
use Rattle.base_codes.specs.Codes.{c_choice, c_complement, c_end, c_false, c_index, c_len, c_negate, c_not, c_number, c_or_else, c_otherwise, c_plain, c_text, c_true}
use Rattle.base_bytes.specs.Choice.{pick, both, either}
use Rattle.base_bytes.proofs.Tests.{both_true, either_true}
use Rattle.base_kinds.specs.Kinds.{Token, sym, number, level}
use Rattle.base_values.specs.Operators.{level_of}
use Rattle.spec_grammar.specs.Tree.{Shape, Exp, plain, indexed, num, tru, fls, get, query, unary, binary, choice, Ref}
use Rattle.base_codes.specs.Items.{code_of, i_binary, i_choice, i_index, i_query, i_otherwise, i_receive, i_send, i_unary}
use Rattle.spec_grammar.specs.Marks.{k_bang, k_ask, k_len}
use Rattle.parse_code.specs.Code.{code_exp}
use Rattle.spec_grammar.specs.Print.{wrap, print_exp}
use Rattle.write_rows.specs.Rules.{rows}
use Rattle.write_texts.specs.Turning.{cell, row_from, shared, row_of, laid, operated, turned, is_token, marked}
use Rattle.write_reprint_proof.specs.Here.{Sane, flagged, Here}
use Rattle.write_reprint_proof.proofs.Walk.{W, emit, go, tell, here-front, here_back, operand_row, name-here}

-- ---- operators have their numbers
pub sane_binary : (o : ℕ) → Sane (i_binary o) → (1 ≤ o) × (o ≤ 18)
sane_binary o (inl e) = let p = both_true (leb 1 o) (leb o 18) e in (leb-true 1 o p.0, leb-true o 18 p.1)
sane_binary o (inr e) = absurd (omega arith)

pub sane_unary : (o : ℕ) → Sane (i_unary o) → (o ≡ 15) ⊎ ((o ≡ 19) ⊎ (o ≡ 20))
sane_unary o (inl e) = by (either_true (eqb o 15) (either (eqb o 19) (eqb o 20)) e)
  where
    last : (eqb o 19 ≡ true) ⊎ (eqb o 20 ≡ true) → (o ≡ 15) ⊎ ((o ≡ 19) ⊎ (o ≡ 20))
    last (inl z) = inr (inl (eqb-true o 19 z))
    last (inr z) = inr (inr (eqb-true o 20 z))

    by : (eqb o 15 ≡ true) ⊎ (either (eqb o 19) (eqb o 20) ≡ true) → (o ≡ 15) ⊎ ((o ≡ 19) ⊎ (o ≡ 20))
    by (inl z) = inl (eqb-true o 15 z)
    by (inr z) = last (either_true (eqb o 19) (eqb o 20) z)
sane_unary o (inr e) = absurd (big (eqb o 15) e)
  where
    big : (b : Bool) → pick b c_negate (c_or_else + o) ≤ c_text → ⊥
    big true l = omega arith
    big false l = omega arith

pub sane_query : (o : ℕ) → Sane (i_query o) → o ≡ k_len
sane_query o (inl e) = eqb-true o k_len e
sane_query o (inr e) = absurd (omega arith)

pub sane_send : (o : ℕ) → Sane (i_send o) → o ≡ k_bang
sane_send o (inl e) = eqb-true o k_bang e
sane_send o (inr e) = absurd (omega arith)

pub sane_receive : (o : ℕ) → Sane (i_receive o) → o ≡ k_ask
sane_receive o (inl e) = eqb-true o k_ask e
sane_receive o (inr e) = absurd (omega arith)

-- ---- rows at any level are those of level 1
symbol_of : (l : ℕ) → l ≤ 12 → is_token (100 + l) ≡ false
symbol_of l h = rw (le-ltb (100 + l) 70 (omega arith), le-ltb 255 (100 + l) (omega arith))

level-shared : (l : ℕ) → 1 ≤ l → l ≤ 12 → shared (100 + l) ≡ 101
level-shared l a b = rw (lt-ltb 100 (100 + l) (omega arith), lt-ltb (100 + l) 113 (omega arith))

level-row : (l c i : ℕ) (st : List ℕ) → 1 ≤ l → l ≤ 12 → both (ltb 146 c) (ltb c c_negate) ≡ false → turned (100 + l) c i st ≡ turned 101 c i st
unfolding turned row_of
level-row l c i st a b e = rw (level-shared l a b, e) refl

-- a binary operator, with or without parentheses
some_number : (n : ℕ) → 1 ≤ n → eqb n 0 ≡ false
some_number n h = ne_eqb n 0 (λ e. omega arith)

module _ (l o i : ℕ) (st : List ℕ) (a : 1 ≤ l) (b : l ≤ 12) (c : 1 ≤ o) (d : o ≤ 18) where
  binary_row : turned (100 + l) (146 + o) i st ≡ operated (100 + l) o st
  unfolding turned
  binary_row = let z : 146 + o - 146 ≡ o = omega arith in rw (level-shared l a b, lt-ltb 146 (146 + o) (omega arith), lt-ltb (146 + o) c_negate (omega arith), z) refl

  tight-row : l ≤ level o → turned (100 + l) (146 + o) i st ≡ (101 + level o) ∷ o ∷ (100 + level o) ∷ st
  unfolding operated level_of
  tight-row h = binary_row ∙ rw (le-ltb (100 + level o) (100 + l) (omega arith), some_number (101 + level o) (omega arith), some_number o c, some_number (100 + level o) (omega arith)) refl

  loose_row : level o < l → turned (100 + l) (146 + o) i st ≡ 22 ∷ (101 + level o) ∷ o ∷ (100 + level o) ∷ 21 ∷ st
  unfolding operated level_of
  loose_row h = binary_row ∙ rw (lt-ltb (100 + level o) (100 + l) (omega arith), some_number (101 + level o) (omega arith), some_number o c, some_number (100 + level o) (omega arith)) refl

-- ---- the rows of expressions
module _ (i : ℕ) (st : List ℕ) where
  plain_row : turned 101 c_plain i st ≡ 120 ∷ st
  unfolding turned row_of row_from cell rows laid
  plain_row = refl

  index_row : turned 101 c_index i st ≡ 24 ∷ 101 ∷ 23 ∷ 120 ∷ st
  unfolding turned row_of row_from cell rows laid
  index_row = refl

  true_row : turned 101 c_true i st ≡ 65 ∷ st
  unfolding turned row_of row_from cell rows laid
  true_row = refl

  false_row : turned 101 c_false i st ≡ 52 ∷ st
  unfolding turned row_of row_from cell rows laid
  false_row = refl

  len_row : turned 101 c_len i st ≡ 22 ∷ 112 ∷ 21 ∷ 57 ∷ st
  unfolding turned row_of row_from cell rows laid
  len_row = refl

  minus_row : turned 101 c_negate i st ≡ 111 ∷ 15 ∷ st
  unfolding turned row_of row_from cell rows laid
  minus_row = refl

  not-row : turned 101 c_not i st ≡ 111 ∷ 19 ∷ st
  unfolding turned row_of row_from cell rows laid
  not-row = refl

  flip_row : turned 101 c_complement i st ≡ 111 ∷ 20 ∷ st
  unfolding turned row_of row_from cell rows laid
  flip_row = refl

  choice_row : turned 101 c_choice i st ≡ 22 ∷ 101 ∷ 123 ∷ 101 ∷ 31 ∷ 101 ∷ 21 ∷ st
  unfolding turned row_of row_from cell rows laid
  choice_row = refl

  otherwise_row : turned 123 c_otherwise i st ≡ 29 ∷ st
  unfolding turned row_of row_from cell rows laid
  otherwise_row = refl

-- ---- levels of operators
abbrev ranged : ℕ → Bool
ranged n = both (leb 1 (level n)) (leb (level n) 10)

abbrev all_ranged : ℕ → Bool
all_ranged zero = true
all_ranged (suc n) = both (ranged (suc n)) (all_ranged n)

ranged_at : (n : ℕ) → all_ranged n ≡ true → (o : ℕ) → 1 ≤ o → o ≤ n → ranged o ≡ true
ranged_at zero e o a b = absurd (omega arith)
ranged_at (suc n) e o a b = by (dec_lt o (suc n)) (both_true (ranged (suc n)) (all_ranged n) e).0 (ranged_at n (both_true (ranged (suc n)) (all_ranged n) e).1 o a)
  where
    by : Dec (o < suc n) → ranged (suc n) ≡ true → (o ≤ n → ranged o ≡ true) → ranged o ≡ true
    by (yes z) p q = q (omega arith)
    by (no z) p q = let w : o ≡ suc n = omega arith in rw w p

pub level_range : (o : ℕ) → 1 ≤ o → o ≤ 18 → (1 ≤ level o) × (level o ≤ 10)
level_range o a b =
    let p = both_true (leb 1 (level o)) (leb (level o) 10) (ranged_at 18 refl o a b) in
    (leb-true 1 (level o) p.0, leb-true (level o) 10 p.1)

-- a reference is printed alike at all levels
pub ref-level : (r : Ref) (l m : ℕ) → print_exp r l ≡ print_exp r m
ref-level (plain w) l m = refl
ref-level (indexed w e) l m = refl

module _ (h : ℕ → Token) (ms : List ℕ) where
  -- an operand's mark at any level
  at_level : (j i l c : ℕ) (st xs : List ℕ) (out : List Token) → j ≡ suc i → 1 ≤ l → l ≤ 12 → get_or ms i 0 ≡ c → both (ltb 146 c) (ltb c c_negate) ≡ false → turned 101 c i st ≡ xs → W h ms j ((100 + l) ∷ st) out ≡ W h ms i xs out
  at_level j i l c st xs out n a b g e r = go h ms j i (100 + l) c st xs out n (symbol_of l b) g (level-row l c i st a b e ∙ r)

  pub walk_exp : {s : Shape} (e : Exp s) (f : Bool) (i j l : ℕ) → j ≡ i + length (code_exp e) → Here h ms f i (code_exp e) → 1 ≤ l → l ≤ 12 → (st : List ℕ) (out : List Token)
      → W h ms j ((100 + l) ∷ st) out ≡ W h ms i st (print_exp e l ++ out)
  walk_exp (plain w) f i j l n p a b st out =
      at_level j (suc i) l c_plain st (120 ∷ st) out (omega arith) a b p.3.0 refl (plain_row (suc i) st) ∙ name-here h ms (suc i) i w refl p.0 (p.1 (omega arith)) st out
  walk_exp (num v) f i j l n p a b st out =
      at_level j i l c_number st ((256 + i) ∷ st) out (omega arith) a b p.0 refl (operand_row i st) ∙ tell h ms i (number v) (p.1 (omega arith)) i st out
  walk_exp tru f i j l n p a b st out = at_level j i l c_true st (65 ∷ st) out (omega arith) a b p.0 refl (true_row i st) ∙ emit h ms 65 refl i st out
  walk_exp fls f i j l n p a b st out = at_level j i l c_false st (52 ∷ st) out (omega arith) a b p.0 refl (false_row i st) ∙ emit h ms 52 refl i st out
  walk_exp (get r) f i j l n p a b st out = walk_exp r f i j l n p a b st out ∙ ap (λ (z : List Token). W h ms i st (z ++ out)) (ref-level r l 12)
  walk_exp (indexed w e) f i j l n p a b st out =
      let k = suc i + length (code_exp e) in
      let t : length (code_exp e ++ i_index ∷ []) ≡ length (code_exp e) + 1 = length-append (code_exp e) (i_index ∷ []) in
      let x = here_back h ms (code_exp e) (i_index ∷ []) f (suc i) k refl p.3 in
      at_level j k l c_index st (24 ∷ 101 ∷ 23 ∷ 120 ∷ st) out (omega arith) a b x.0 refl (index_row k st) ∙ emit h ms 24 refl _ _ _
      ∙ walk_exp e f (suc i) k 1 refl (here-front h ms (code_exp e) (i_index ∷ []) f (suc i) p.3) (omega arith) (omega arith) _ _
      ∙ emit h ms 23 refl _ _ _ ∙ name-here h ms (suc i) i w refl p.0 (p.1 (omega arith)) st _ ∙ simp append_assoc
  walk_exp (query mk r) f i j l n p a b st out =
      let k = i + length (code_exp r) in
      let t : length (code_exp r ++ i_query mk ∷ []) ≡ length (code_exp r) + 1 = length-append (code_exp r) (i_query mk ∷ []) in
      let x = here_back h ms (code_exp r) (i_query mk ∷ []) f i k refl p in
      let g : W h ms j ((100 + l) ∷ st) out ≡ W h ms i st (print_exp (query k_len r) l ++ out) =
      at_level j k l c_len st (22 ∷ 112 ∷ 21 ∷ 57 ∷ st) out (omega arith) a b x.0 refl (len_row k st) ∙ emit h ms 22 refl _ _ _
      ∙ walk_exp r f i k 12 refl (here-front h ms (code_exp r) (i_query mk ∷ []) f i p) (omega arith) (omega arith) _ _
      ∙ emit h ms 21 refl _ _ _ ∙ emit h ms 57 refl _ _ _ ∙ simp append_assoc in
      g ∙ ap (λ o. W h ms i st (print_exp (query o r) l ++ out)) (inv (sane_query mk x.2))
  walk_exp (unary o e) f i j l n p a b st out =
      let k = i + length (code_exp e) in
      let t : length (code_exp e ++ i_unary o ∷ []) ≡ length (code_exp e) + 1 = length-append (code_exp e) (i_unary o ∷ []) in
      let x = here_back h ms (code_exp e) (i_unary o ∷ []) f i k refl p in
      by k (omega arith) (sane_unary o x.2) x.0 (λ st out. walk_exp e f i k 11 refl (here-front h ms (code_exp e) (i_unary o ∷ []) f i p) (omega arith) (omega arith) st out)
    where
      done : (k u c : ℕ) → o ≡ u → j ≡ suc k → get_or ms k 0 ≡ c → both (ltb 146 c) (ltb c c_negate) ≡ false → turned 101 c k st ≡ 111 ∷ u ∷ st → is_token u ≡ true → ltb u 70 ≡ true
          → ((st : List ℕ) (out : List Token) → W h ms k (111 ∷ st) out ≡ W h ms i st (print_exp e 11 ++ out)) → W h ms j ((100 + l) ∷ st) out ≡ W h ms i st (sym o ∷ (print_exp e 11 ++ out))
      done k u c q m g z r y v s = at_level j k l c st (111 ∷ u ∷ st) out m a b g z r ∙ s (u ∷ st) out ∙ emit h ms u y _ _ _ ∙ rw (v, q) refl

      by : (k : ℕ) → j ≡ suc k → (o ≡ 15) ⊎ ((o ≡ 19) ⊎ (o ≡ 20)) → get_or ms k 0 ≡ marked (flagged f (code_exp e)) (code_of (i_unary o))
          → ((st : List ℕ) (out : List Token) → W h ms k (111 ∷ st) out ≡ W h ms i st (print_exp e 11 ++ out)) → W h ms j ((100 + l) ∷ st) out ≡ W h ms i st (sym o ∷ (print_exp e 11 ++ out))
      by k m (inl q) g s = done k 15 c_negate q m (rw q at g) refl (minus_row k st) refl refl s
      by k m (inr (inl q)) g s = done k 19 c_not q m (rw q at g) refl (not-row k st) refl refl s
      by k m (inr (inr q)) g s = done k 20 c_complement q m (rw q at g) refl (flip_row k st) refl refl s
  walk_exp (binary o c d) f i j l n p a b st out =
      let A = code_exp c in
      let B = code_exp d in
      let m = i + length A in
      let k = m + length B in
      let t : length (A ++ B ++ i_binary o ∷ []) ≡ length (A ++ B) + 1 = length-append (A ++ B) (i_binary o ∷ []) in
      let t2 : length (A ++ B) ≡ length A + length B = length-append A B in
      let ab = here-front h ms (A ++ B) (i_binary o ∷ []) f i p in
      let x = here_back h ms (A ++ B) (i_binary o ∷ []) f i k (omega arith) p in
      let y = sane_binary o x.2 in
      let z = level_range o y.0 y.1 in
      let g : get_or ms k 0 ≡ 146 + o = x.0 ∙ rw (ne_eqb (146 + o) c_end (λ e. omega (arith, y.1))) refl in
      by m k (omega arith) y g (leb l (level o)) refl
      (λ st out. walk_exp d (flagged f A) m k (suc (level o)) refl (here_back h ms A B f i m refl ab) (omega arith) (omega (arith, z.1)) st out)
      (λ st out. walk_exp c f i m (level o) refl (here-front h ms A B f i ab) z.0 (omega (arith, z.1)) st out)
    where
      operator : (m : ℕ) (st : List ℕ) (out : List Token) → o ≤ 18 → W h ms m (o ∷ st) out ≡ W h ms m st (sym o ∷ out)
      operator m st out y = emit h ms o (rw (lt-ltb o 70 (omega arith))) m st out ∙ rw (lt-ltb o 70 (omega arith)) refl

      right_at : (k : ℕ) (st : List ℕ) (out : List Token) → W h ms k ((101 + level o) ∷ st) out ≡ W h ms k ((100 + suc (level o)) ∷ st) out
      right_at k st out = let q : 101 + level o ≡ 100 + suc (level o) = omega arith in rw q refl

      by : (m k : ℕ) → j ≡ suc k → (1 ≤ o) × (o ≤ 18) → get_or ms k 0 ≡ 146 + o → (t : Bool) → leb l (level o) ≡ t
          → ((st : List ℕ) (out : List Token) → W h ms k ((100 + suc (level o)) ∷ st) out ≡ W h ms m st (print_exp d (suc (level o)) ++ out))
          → ((st : List ℕ) (out : List Token) → W h ms m ((100 + level o) ∷ st) out ≡ W h ms i st (print_exp c (level o) ++ out))
          → W h ms j ((100 + l) ∷ st) out ≡ W h ms i st (wrap (leb l (level o)) (print_exp c (level o) ++ sym o ∷ print_exp d (suc (level o))) ++ out)
      by m k q y g true e u v =
          go h ms j k (100 + l) (146 + o) st ((101 + level o) ∷ o ∷ (100 + level o) ∷ st) out q (symbol_of l b) g (tight-row l o k st a b y.0 y.1 (leb-true l (level o) e))
          ∙ right_at k _ _ ∙ u _ _ ∙ operator _ _ _ y.1 ∙ v _ _ ∙ rw e (simp append_assoc)
      by m k q y g false e u v =
          go h ms j k (100 + l) (146 + o) st (22 ∷ (101 + level o) ∷ o ∷ (100 + level o) ∷ 21 ∷ st) out q (symbol_of l b) g (loose_row l o k st a b y.0 y.1 (leb-false l (level o) e))
          ∙ emit h ms 22 refl _ _ _ ∙ right_at k _ _ ∙ u _ _ ∙ operator _ _ _ y.1 ∙ v _ _ ∙ emit h ms 21 refl _ _ _ ∙ rw e (simp append_assoc)
  walk_exp (choice c d e) f i j l n p a b st out =
      let A = code_exp c in
      let B = code_exp d in
      let C = code_exp e in
      let m = i + length A in
      let k = m + length B in
      let q = suc k + length C in
      let t : length (A ++ B ++ i_otherwise ∷ C ++ i_choice ∷ []) ≡ length (A ++ B ++ i_otherwise ∷ C) + 1 = length-append (A ++ B ++ i_otherwise ∷ C) (i_choice ∷ []) in
      let t2 : length (A ++ B ++ i_otherwise ∷ C) ≡ length (A ++ B) + suc (length C) = length-append (A ++ B) (i_otherwise ∷ C) in
      let t3 : length (A ++ B) ≡ length A + length B = length-append A B in
      let abc = here-front h ms (A ++ B ++ i_otherwise ∷ C) (i_choice ∷ []) f i p in
      let x = here_back h ms (A ++ B ++ i_otherwise ∷ C) (i_choice ∷ []) f i q (omega arith) p in
      let ab = here-front h ms (A ++ B) (i_otherwise ∷ C) f i abc in
      let oc = here_back h ms (A ++ B) (i_otherwise ∷ C) f i k (omega arith) abc in
      at_level j q l c_choice st (22 ∷ 101 ∷ 123 ∷ 101 ∷ 31 ∷ 101 ∷ 21 ∷ st) out (omega arith) a b x.0 refl (choice_row q st) ∙ emit h ms 22 refl _ _ _
      ∙ walk_exp e (flagged f (A ++ B)) (suc k) q 1 refl oc.3 (omega arith) (omega arith) _ _
      ∙ go h ms (suc k) k 123 c_otherwise _ _ _ refl refl oc.0 (otherwise_row k _) ∙ emit h ms 29 refl _ _ _
      ∙ walk_exp d (flagged f A) m k 1 refl (here_back h ms A B f i m refl ab) (omega arith) (omega arith) _ _
      ∙ emit h ms 31 refl _ _ _
      ∙ walk_exp c f i m 1 refl (here-front h ms A B f i ab) (omega arith) (omega arith) _ _
      ∙ emit h ms 21 refl _ _ _ ∙ simp append_assoc
