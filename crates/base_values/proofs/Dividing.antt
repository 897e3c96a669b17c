-- Dividing: a zero divisor and the least value by -1 told apart, and every other quotient in range.
use Rattle.std.proofs.Common.{◌≡◌, ℕ, zero, suc, ◌/◌, ◌^◌, ◌<◌, Bool, true, false, ◌&&◌, eqb, ℤ, pos, negsuc, sym, refl, ◌∙◌, ap₂, div-lt_iff_lt-mul, div-le_self, arith, lit<, w32, SFits, to_z, of_z, eq-eqb, ne_eqb}
use lib.Signed.{mag, quot_z}
use borrow.Author.Tests.{eqb-false}
use Rattle.base_bytes.proofs.Tests.{true_false}
use Rattle.base_values.specs.Operators.{same}
use Rattle.base_values.proofs.Tests.{both}
use Rattle.base_values.proofs.Laws.{same_eq}
use Rattle.base_values.proofs.Machine.{small, back, same_bits, zero_bits}
use Rattle.base_values.proofs.Wrapping.{mag_neg}

abbrev least : ℤ
least = negsuc 2147483647

abbrev minus_one : ℤ
minus_one = negsuc 0

quot_fits : (a b : ℤ) → SFits w32 a → (same a least && same b minus_one) ≡ false → mag (quot_z a b) < 2 ^ 31
quot_fits (pos a) (pos b) f e = omega (arith, f.sfits, div-le_self a b)
quot_fits (pos a) (negsuc b) f e = omega (arith, f.sfits, mag_neg (a / suc b) a (omega (arith, div-le_self a (suc b))))
quot_fits (negsuc a) (pos b) f e = omega (arith, f.sfits, mag_neg (suc a / b) a (div-le_self (suc a) b))
quot_fits (negsuc a) (negsuc zero) f e = go (eqb a 2147483647) refl e
  where
    go : (t : Bool) → eqb a 2147483647 ≡ t → (t && true) ≡ false → suc a / 1 < 2 ^ 31
    go true g e = absurd (true_false e)
    go false g e = omega (arith, f.sfits, div-le_self (suc a) 1, eqb-false a 2147483647 g)
quot_fits (negsuc a) (negsuc (suc b)) f e = (div-lt_iff_lt-mul {k = suc (suc b)} (omega arith)).1 (omega (arith, f.sfits))

pub by_zero : {b : ℤ} → SFits w32 b → of_z w32 b ≡ 0 → same b (pos 0) ≡ true
by_zero f e = sym (zero_bits f) ∙ eq-eqb _ 0 e

pub not_by_zero : {b : ℤ} → SFits w32 b → (of_z w32 b ≡ 0 → ⊥) → same b (pos 0) ≡ false
not_by_zero f h = sym (zero_bits f) ∙ ne_eqb _ 0 h

module _ {a b : ℤ} (fa : SFits w32 a) (fb : SFits w32 b) where
  -- the test of the code, on the bits
  abbrev tested : Bool
  tested = eqb (of_z w32 a) 2147483648 && eqb (of_z w32 b) 4294967295

  least_bits : tested ≡ (same a least && same b minus_one)
  least_bits = ap₂ ◌&&◌ (same_bits a least fa (small (lit< tt))) (same_bits b minus_one fb (small (lit< tt)))

  pub is_least : tested ≡ true → (a ≡ least) × (b ≡ minus_one)
  is_least e =
      let p : (same a least ≡ true) × (same b minus_one ≡ true) = both _ _ (sym least_bits ∙ e) in
      (same_eq a least p.0, same_eq b minus_one p.1)

  -- an operation of the machine's whose result is in range
  pub given : (op : ℤ → ℤ → ℤ) → mag (op a b) < 2 ^ 31 → to_z w32 (of_z w32 (op (to_z w32 (of_z w32 a)) (to_z w32 (of_z w32 b)))) ≡ op a b
  given op f = rw (back fa, back fb) (back (small f))

  module _ (e : tested ≡ false) where
    pub quot_small : mag (quot_z a b) < 2 ^ 31
    quot_small = quot_fits a b fa (sym least_bits ∙ e)

    pub asks : (of_z w32 b ≡ 0 → ⊥) → (0 < of_z w32 b) × SFits w32 (quot_z (to_z w32 (of_z w32 a)) (to_z w32 (of_z w32 b)))
    asks h = (positive (of_z w32 b) h, rw (back fa, back fb) (small quot_small))
      where
        positive : (n : ℕ) → (n ≡ 0 → ⊥) → 0 < n
        positive n h = omega arith
