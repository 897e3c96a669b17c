-- An operator's arm: what the machine's operation, or a callee, gives of two values.
use Rattle.std.proofs.Common.{◌≡◌, ℕ, suc, ◌-◌, ◌^◌, ◌<◌, Bool, true, false, not, eqb, ℤ, pos, negsuc, refl, ◌∙◌, arith, w32, SFits, to_z, of_z, Result}
use lib.Signed.{mag}
use mir.Val.{bool_byte}
use Rattle.base_values.specs.Bits.{low}
use Rattle.base_values.specs.Operators.{same, is_true, one_if, on_bits, complement}
use Rattle.base_values.proofs.Machine.{small, back, read, bits32, same_bits, zero_bits}
use Rattle.base_values.specs.declared.Fault.{Fault}

pub one_if_lem : (t : Bool) → to_z w32 (bool_byte t) ≡ one_if t
one_if_lem true = refl
one_if_lem false = refl

module _ {a b : ℤ} (fa : SFits w32 a) (fb : SFits w32 b) where
  pub of_bits : (f : ℕ → ℕ → ℕ) → to_z w32 (f (of_z w32 a) (of_z w32 b)) ≡ on_bits f a b
  of_bits f = rw (bits32 fa, bits32 fb) (read (f (low 32 a) (low 32 b)))

  pub of_truths : (f : Bool → Bool → Bool) → to_z w32 (bool_byte (f (not (eqb (of_z w32 a) 0)) (not (eqb (of_z w32 b) 0)))) ≡ one_if (f (is_true a) (is_true b))
  of_truths f = rw (zero_bits fa, zero_bits fb) (one_if_lem (f (is_true a) (is_true b)))

  pub of_same : (f : Bool → Bool) → to_z w32 (bool_byte (f (eqb (of_z w32 a) (of_z w32 b)))) ≡ one_if (f (same a b))
  of_same f = rw (same_bits a b fa fb) (one_if_lem (f (same a b)))

  pub of_test : (f : ℤ → ℤ → Bool) → to_z w32 (bool_byte (f (to_z w32 (of_z w32 a)) (to_z w32 (of_z w32 b)))) ≡ one_if (f a b)
  of_test f = rw (back fa, back fb) (one_if_lem (f a b))

  -- a callee's value or answer
  pub of_value : (g : ℤ → ℤ → ℤ) {r : ℤ} → mag r < 2 ^ 31 → r ≡ g (to_z w32 (of_z w32 a)) (to_z w32 (of_z w32 b)) → to_z w32 (of_z w32 r) ≡ g a b
  of_value g h e = back (small h) ∙ (rw (back fa, back fb) at e)

  pub of_answer : (g : ℤ → ℤ → Result ℤ Fault) {r : Result ℤ Fault} → r ≡ g (to_z w32 (of_z w32 a)) (to_z w32 (of_z w32 b)) → r ≡ g a b
  of_answer g e = rw (back fa, back fb) at e

pub complement_bits : {a : ℤ} → SFits w32 a → to_z w32 (4294967295 - of_z w32 a) ≡ complement a
complement_bits {a = pos n} f = rw (one_less n f) (back {z = negsuc n} (small f.sfits))
  where
    one_less : (n : ℕ) → SFits w32 (pos n) → 4294967295 - n ≡ 4294967296 - suc n
    one_less n f = omega arith
complement_bits {a = negsuc n} f = rw (turned n f.sfits) (back {z = pos n} (small f.sfits))
  where
    turned : (n : ℕ) → n < 2 ^ 31 → 4294967295 - (4294967296 - suc n) ≡ n
    turned n h = omega arith
