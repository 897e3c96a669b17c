-- When a byte joins what stands before it, by the kind alone: a mark of two bytes joins none, a mark of one byte where the two are a mark or open a comment.
use Prim.Native.Nat.{ℕ, zero, suc, ◌+◌, ◌-◌, ◌≤◌, ◌<◌}
use mathlib.Core.Path.{◌≡◌, refl, sym, ◌∙◌, ap}
use mathlib.Core.Bool.{Bool, true, false, not}
use mathlib.Core.List.{List, [], ◌∷◌}
use native.Mathlib.Omega.{arith}
use lib.ListN.{length, get_or, get_or-append}
use lib.Dec.{eqb, ltb}
use borrow.Author.Tests.{lt-ltb, le-ltb, eq-eqb, ne_eqb}
use Rattle.base_bytes.specs.Choice.{both, either}
use Rattle.base_bytes.specs.Lists.{same}
use Rattle.base_bytes.proofs.Tests.{true_false, both_true, both_no}
use Rattle.base_kinds.specs.Kinds.{marks, keywords}
use Rattle.std.specs.Option.{is_some}
use Rattle.spec_text.specs.Find.{find}
use Rattle.spec_text.specs.Bytes.{is_word, is_digit}
use Rattle.spec_text.specs.Spelled.{mark_joins}
use Rattle.text_spellings.specs.First.{listed}
use Rattle.text_pens.specs.Sheet.{spelled_by}
use Rattle.text_pens.specs.After.{joins_by}

-- ---- a mark has one byte, or two that are no zeros
unfoldable small : List ℕ → Bool
small [] = false
small (a ∷ []) = true
small (a ∷ b ∷ []) = not (eqb b 0)
small (a ∷ b ∷ c ∷ s) = false

unfoldable all_small : List (List ℕ) → Bool
all_small [] = true
all_small (x ∷ xs) = both (small x) (all_small xs)

small_at : (xs : List (List ℕ)) → all_small xs ≡ true → (r : ℕ) → r < length xs → small (get_or xs r []) ≡ true
unfolding all_small
small_at [] h r l = absurd (omega arith)
small_at (x ∷ xs) h zero l = (both_true (small x) (all_small xs) h).0
small_at (x ∷ xs) h (suc r) l = small_at xs (both_true (small x) (all_small xs) h).1 r (omega arith)

marks-small : all_small marks ≡ true
unfolding all_small small
marks-small = refl

mark-small : (k : ℕ) → k < 38 → small (spelled_by k) ≡ true
mark-small k h = rw (get_or-append marks keywords [] (k - 1) (omega arith)) (small_at marks marks-small (k - 1) (omega arith))

-- ---- no mark has three bytes
unlike : (a b c : ℕ) (x : List ℕ) → small x ≡ true → same (a ∷ b ∷ c ∷ []) x ≡ false
unfolding same small
unlike a b c [] e = refl
unlike a b c (d ∷ []) e = both_no (eqb a d) refl
unlike a b c (d ∷ f ∷ []) e = both_no (eqb a d) (both_no (eqb b f) refl)
unlike a b c (d ∷ f ∷ g ∷ s) e = absurd (true_false (sym e))

no_three : (a b c : ℕ) (xs : List (List ℕ)) (k : ℕ) → all_small xs ≡ true → find (a ∷ b ∷ c ∷ []) xs k ≡ 0
unfolding find all_small
no_three a b c [] k h = refl
no_three a b c (x ∷ xs) k h =
    let p = both_true (small x) (all_small xs) h in
    rw (unlike a b c x p.0) (no_three a b c xs (k + 1) p.1)

-- ---- one byte, or two
both-same : (t : Bool) → both t true ≡ t
both-same true = refl
both-same false = refl

slash-one : (a : ℕ) → same (a ∷ []) (47 ∷ []) ≡ eqb a 47
unfolding same
slash-one a = both-same (eqb a 47)

slash-two : (a d : ℕ) → same (a ∷ d ∷ []) (47 ∷ []) ≡ false
unfolding same
slash-two a d = both_no (eqb a 47) refl

module _ (k c : ℕ) (h : k < 38) where
  by_mark : joins_by k c ≡ mark_joins (spelled_by k) c
  unfolding joins_by
  by_mark = rw (lt-ltb k 38 h)

  pub two_bytes : (b : ℕ) → b ≡ get_or (spelled_by k) 1 0 → (b ≡ 0 → ⊥) → false ≡ joins_by k c
  unfolding small
  two_bytes b e n = sym (by_mark ∙ go (spelled_by k) (mark-small k h) e)
    where
      go : (x : List ℕ) → small x ≡ true → b ≡ get_or x 1 0 → mark_joins x c ≡ false
      go [] s q = absurd (n q)
      go (a ∷ []) s q = absurd (n q)
      go (a ∷ d ∷ []) s q = rw (no_three a d c marks 1 marks-small, slash-two a d)
      go (a ∷ d ∷ f ∷ s') s q = absurd (true_false (sym s))

  pub one_byte : (b a m : ℕ) → b ≡ get_or (spelled_by k) 1 0 → b ≡ 0 → a ≡ get_or (spelled_by k) 0 0 → m ≡ find (a ∷ c ∷ []) marks 1 → joins_by k c ≡ either (ltb 0 m) (both (eqb a 47) (eqb c 42))
  unfolding small
  one_byte b a m e n p q = by_mark ∙ go (spelled_by k) (mark-small k h) e p
    where
      go : (x : List ℕ) → small x ≡ true → b ≡ get_or x 1 0 → a ≡ get_or x 0 0 → mark_joins x c ≡ either (ltb 0 m) (both (eqb a 47) (eqb c 42))
      go [] s e p = absurd (true_false (sym s))
      go (d ∷ []) s e p = rw (q, p, slash-one d)
      go (d ∷ f ∷ []) s e p = absurd (true_false (sym s ∙ ap not (eq-eqb f 0 (sym e ∙ n))))
      go (d ∷ f ∷ g ∷ s') s e p = absurd (true_false (sym s))

  -- as the program goes: no mark of two bytes, a mark with the byte, a comment
  pub joined-mark : (b a m : ℕ) → b ≡ get_or (spelled_by k) 1 0 → b ≡ 0 → a ≡ get_or (spelled_by k) 0 0 → m ≡ find (a ∷ c ∷ []) marks 1 → (m ≡ 0 → ⊥) → true ≡ joins_by k c
  joined-mark b a m e n p q z = sym (one_byte b a m e n p q ∙ rw (lt-ltb 0 m (omega (arith, z))))

  pub joined-slash : (b a m : ℕ) → b ≡ get_or (spelled_by k) 1 0 → b ≡ 0 → a ≡ get_or (spelled_by k) 0 0 → m ≡ find (a ∷ c ∷ []) marks 1 → m ≡ 0 → a ≡ 47 → eqb c 42 ≡ joins_by k c
  joined-slash b a m e n p q z w = sym (one_byte b a m e n p q ∙ rw (z, eq-eqb a 47 w))

  pub joined-none : (b a m : ℕ) → b ≡ get_or (spelled_by k) 1 0 → b ≡ 0 → a ≡ get_or (spelled_by k) 0 0 → m ≡ find (a ∷ c ∷ []) marks 1 → m ≡ 0 → (a ≡ 47 → ⊥) → false ≡ joins_by k c
  joined-none b a m e n p q z w = sym (one_byte b a m e n p q ∙ rw (z, ne_eqb a 47 w))

-- ---- is a place listed?
pub is-mark : (m : ℕ) → is_some (listed m) ≡ true → m ≡ 0 → ⊥
is-mark m e z = true_false (sym e ∙ rw z refl)

pub no-mark : (m : ℕ) → is_some (listed m) ≡ false → m ≡ 0
no-mark zero e = refl
no-mark (suc m) e = absurd (true_false (rw (ne_eqb (suc m) 0 (λ h. omega arith)) at e))

-- ---- the other kinds
pub word-joins : (k c : ℕ) → 38 ≤ k → k < 71 → is_word c ≡ joins_by k c
unfolding joins_by
word-joins k c h l = sym (rw (le-ltb k 38 h, lt-ltb k 71 l))

pub number-joins : (k c : ℕ) → k ≡ 71 → is_digit c ≡ joins_by k c
unfolding joins_by
number-joins k c h = rw h

pub none-joins : (k c : ℕ) → 71 ≤ k → (k ≡ 71 → ⊥) → false ≡ joins_by k c
unfolding joins_by
none-joins k c h n = sym (rw (le-ltb k 38 (omega arith), le-ltb k 71 h, ne_eqb k 71 n))
