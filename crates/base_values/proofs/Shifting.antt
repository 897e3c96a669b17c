-- Shifting: the test of the count, and what is shifted by a count that passed it.
use Rattle.std.proofs.Common.{◌≡◌, ℕ, ◌<◌, Bool, true, false, cond, ◌||◌, ltb, ℤ, pos, negsuc, sym, refl, ap, ◌∙◌, zero-le, arith, w32, SFits, to_z, of_z, ltb-false, ltb-true, le-ltb, lt-ltb, Ok, Err}
use lib.Signed.{lt_z}
use Rattle.base_bytes.proofs.Tests.{true_false}
use Rattle.base_values.specs.Operators.{shift_by}
use Rattle.base_values.specs.declared.Fault.TheVariants.{Shift}
use Rattle.base_values.proofs.Machine.{back}

abbrev outside : ℤ → Bool
outside b = lt_z b (pos 0) || lt_z (pos 31) b

outside_pos : (n : ℕ) → outside (pos n) ≡ ltb 31 n
outside_pos n = rw (le-ltb n 0 zero-le)

shift_out : (f : ℕ → ℤ) (b : ℤ) → outside b ≡ true → Err Shift ≡ shift_by f b
shift_out f (pos n) e = rw (le-ltb n 32 (ltb-true 31 n (sym (outside_pos n) ∙ e)))
shift_out f (negsuc n) e = refl

shift_in : (b : ℤ) → outside b ≡ false → (b ≡ pos (of_z w32 b)) × (of_z w32 b < 32)
shift_in (pos n) e = (refl, omega (arith, ltb-false 31 n (sym (outside_pos n) ∙ e)))
shift_in (negsuc n) e = absurd (true_false e)

module _ {b : ℤ} (fb : SFits w32 b) where
  tested : outside (to_z w32 (of_z w32 b)) ≡ outside b
  tested = rw (back fb)

  pub shift_fails : (f : ℕ → ℤ) → outside (to_z w32 (of_z w32 b)) ≡ true → Err Shift ≡ shift_by f b
  shift_fails f e = shift_out f b (sym tested ∙ e)

  module _ (e : outside (to_z w32 (of_z w32 b)) ≡ false) where
    pub amount : of_z w32 b < 32
    amount = (shift_in b (sym tested ∙ e)).1

    pub shifted : (f : ℕ → ℤ) → Ok (f (of_z w32 b)) ≡ shift_by f b
    shifted f =
        rw (shift_in b (sym tested ∙ e)).0
        (sym (ap (λ t. cond t (Ok (f (of_z w32 b))) (Err Shift)) (lt-ltb (of_z w32 b) 32 amount)))
