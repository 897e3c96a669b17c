-- The decimal digits of a number write that number, and no other digits of it are fewer.
use mathlib.Core.Path.{◌≡◌, refl}
use mathlib.Core.Bool.{Bool, true, false}
use mathlib.Core.List.{List, [], ◌∷◌, ◌++◌}
use Prim.Native.Nat.{ℕ, zero, suc, ◌+◌, ◌-◌, ◌*◌, ◌/◌, ◌%◌, ◌^◌, ◌≤◌, ◌<◌}
use native.Mathlib.Omega.{arith}
use native.Mathlib.Nat.{pow-suc, pow-succ', mul_assoc, mul-le-mul_right, le_trans}
use borrow.Author.Tests.{ltb-true, ltb-false, le-leb}
use lib.Dec.{ltb}
use lib.ListN.{length, length-append}
use Rattle.base_ceilings.specs.Ceilings.{number_most}
use Rattle.base_bytes.proofs.Tests.{both_true}
use Rattle.spec_text.specs.Bytes.{is_digit}
use Rattle.spec_text.specs.Digits.{decimal_from, decimal}
use Rattle.spec_text.specs.Spelled.{all, Spelled, digits}
use Rattle.spec_text.specs.Formats.{digits_by, digits_of}
use Rattle.text_spacing_proof.proofs.Classes.{digit_range}

pub digit_of : (n : ℕ) → n < 10 → is_digit (48 + n) ≡ true
digit_of n h = rw (le-leb 48 (48 + n) (omega arith), le-leb (48 + n) 57 (omega arith))

decimal-last : (v c : ℕ) (x : List ℕ) → decimal_from v (x ++ c ∷ []) ≡ decimal_from v x * 10 + (c - 48)
unfolding decimal_from
decimal-last v c [] = refl
decimal-last v c (b ∷ x) = decimal-last (v * 10 + (b - 48)) c x

all-last : (p : ℕ → Bool) (c : ℕ) (x : List ℕ) → all p x ≡ true → p c ≡ true → all p (x ++ c ∷ []) ≡ true
unfolding all
all-last p c [] a e = rw e
all-last p c (b ∷ x) a e = let (u, v) = both_true (p b) (all p x) a in rw (u, all-last p c x v e)

-- f digits are enough for numbers below 10 ^ f
record Digits (f n : ℕ) : Type 0 where
  are : all is_digit (digits_by f n) ≡ true
  write : decimal (digits_by f n) ≡ n
  some : 0 < f → 0 < length (digits_by f n)
  few : (k : ℕ) → n < 10 ^ k → 0 < k → length (digits_by f n) ≤ k

by_digits : (f n : ℕ) → n < 10 ^ f → Digits f n
unfolding digits_by all decimal_from
by_digits zero n h =
    let e : n ≡ 0 = omega arith in
    rw e (record { are = refl; write = refl; some = λ q. q; few = λ k _ _. omega arith })
by_digits (suc f) n h = go (ltb n 10) refl (by_digits f (n / 10))
  where
    small : n < 10 ^ f * 10 → n / 10 < 10 ^ f
    small q = omega arith

    fewer : (k : ℕ) → n < 10 ^ k → 10 ≤ n → (l : ℕ) → ((j : ℕ) → n / 10 < 10 ^ j → 0 < j → l ≤ j) → l + 1 ≤ k
    fewer zero a b l r = absurd (omega arith)
    fewer (suc zero) a b l r = absurd (omega arith)
    fewer (suc (suc k)) a b l r =
        let q : n < 10 ^ suc k * 10 = rw (pow-suc 10 (suc k)) at a in
        let w : n / 10 < 10 ^ suc k = down (10 ^ suc k) q in
        omega (arith, r (suc k) w (omega arith))
      where
        down : (p : ℕ) → n < p * 10 → n / 10 < p
        down p q = omega arith

    go : (t : Bool) → ltb n 10 ≡ t → (n / 10 < 10 ^ f → Digits f (n / 10)) → Digits (suc f) n
    go true e r =
        let q : n < 10 = ltb-true n 10 e in
        record {
          are = rw (e, digit_of n q);
          write = rw e (omega arith);
          some = λ _. rw e (omega arith);
          few = λ k _ h. rw e h;
        }
    go false e r =
        let z = r (small (rw (pow-suc 10 f) at h)) in
        let q : 10 ≤ n = ltb-false n 10 e in
        record {
          are = rw e (all-last is_digit (48 + n % 10) (digits_by f (n / 10)) z.are (digit_of (n % 10) (omega arith)));
          write = rw (e, decimal-last 0 (48 + n % 10) (digits_by f (n / 10)), z.write) (omega arith);
          some = λ _. rw (e, length-append (digits_by f (n / 10)) ((48 + n % 10) ∷ [])) (omega arith);
          few = λ k a _. rw (e, length-append (digits_by f (n / 10)) ((48 + n % 10) ∷ [])) (fewer k a q (length (digits_by f (n / 10))) z.few);
        }

ten : (n : ℕ) → n ≤ number_most → Digits 10 n
ten n h = by_digits 10 n (omega arith)

pub digits-write : (n : ℕ) → n ≤ number_most → decimal (digits_of n) ≡ n
digits-write n h = (ten n h).write

number_spelled : (x : List ℕ) → all is_digit x ≡ true → 0 < length x → decimal x ≤ number_most → Spelled 71 x
unfolding all
number_spelled [] a l h = absurd (omega arith)
number_spelled (b ∷ x) a l h = let (u, v) = both_true (is_digit b) (all is_digit x) a in digits u v h

pub digits-spelled : (n : ℕ) → n ≤ number_most → Spelled 71 (digits_of n)
digits-spelled n h = number_spelled (digits_of n) (ten n h).are ((ten n h).some (omega arith)) (rw (digits-write n h) h)

-- digits hold less than 10 to their count
pub decimal-below : (x : List ℕ) (v : ℕ) → all is_digit x ≡ true → suc (decimal_from v x) ≤ suc v * 10 ^ length x
unfolding all decimal_from
decimal-below [] v a = omega arith
decimal-below (b ∷ x) v a =
    let (u, w) = both_true (is_digit b) (all is_digit x) a in
    let (lo, hi) = digit_range b u in
    let q : suc (v * 10 + (b - 48)) ≤ suc v * 10 = omega arith in
    rw (pow-succ' 10 (length x), ← mul_assoc (suc v) 10 (10 ^ length x))
    (le_trans (decimal-below x (v * 10 + (b - 48)) w) (mul-le-mul_right (10 ^ length x) q))

pub digits_fewest : (x : List ℕ) → all is_digit x ≡ true → 0 < length x → decimal x ≤ number_most → length (digits_of (decimal x)) ≤ length x
digits_fewest x a l h = (ten (decimal x) h).few (length x) (below x a) l
  where
    below : (x : List ℕ) → all is_digit x ≡ true → decimal x < 10 ^ length x
    below x a = omega (arith, decimal-below x 0 a)
