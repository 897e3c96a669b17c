-- Casting: the mask of a width, and what `cast` gives by the width of the type.
use Rattle.std.proofs.Common.{◌≡◌, ℕ, suc, ◌-◌, ◌*◌, ◌%◌, ◌^◌, ◌<◌, ◌≤◌, true, false, ℤ, pos, negsuc, ◌-ℤ◌, sym, refl, ap, ◌∙◌, mod-eq_of_lt, one-mul, arith, pow_pos, pow_mono, w32, SFits, to_z, of_z, le-ltb}
use lib.Signed.{mag, lt_z}
use lib.Bits.{bit_and}
use borrow.Author.Tests.{lt-leb}
use mir.ValLaws.{to_z_pos}
use Rattle.base_values.specs.Bits.{low, wrap}
use Rattle.base_values.specs.Types.{width_of, cast_of}
use Rattle.base_values.proofs.Wrap.{low_lt, wrap_id}
use Rattle.base_values.proofs.Laws.{at_width}
use Rattle.base_values.proofs.Machine.{masks, minus, small, back}

-- more than 16 bits are 32
whole : (t : ℕ) → 16 < width_of t → width_of t ≡ 32
whole = at_width (λ k. 16 < k → k ≡ 32) (λ h. omega arith) (λ h. omega arith) (λ h. omega arith) (λ h. refl)

module _ (t : ℕ) {w : ℕ} {v : ℤ} (f : SFits w32 v) (e : w ≡ width_of t) where
  pub cast_whole : 16 < w → to_z w32 (of_z w32 v) ≡ cast_of t v
  unfolding cast_of
  cast_whole h = back f ∙ rw (whole t (rw e at h)) (sym (wrap_id 31 v f.sfits))

  -- the mask of w bits, and the bits that it keeps
  abbrev mask : ℤ
  mask = to_z w32 (1 * 2 ^ w % 4294967296) -ℤ pos 1

  abbrev kept_bits : ℤ
  kept_bits = to_z w32 (bit_and (of_z w32 v) (of_z w32 mask))

  module _ (h : w ≤ 16) where
    mask_is : mask ≡ pos (2 ^ w - 1)
    mask_is =
        let p : 2 ^ w ≤ 65536 = pow_mono {j = 16} h in
        let q : 1 ≤ 2 ^ w = pow_pos w in
        rw (one-mul, mod-eq_of_lt {n = 2 ^ w} {m = 4294967296} (omega arith), to_z_pos w32 (2 ^ w) (omega arith), le-ltb (2 ^ w) 1 q)

    pub mask_fits : SFits w32 mask
    mask_fits = let p : 2 ^ w ≤ 65536 = pow_mono {j = 16} h in rw mask_is (small (omega arith))

    kept : kept_bits ≡ pos (low w v)
    kept = rw mask_is (masks w (omega arith) f)

    pub cast_unsigned : w < 16 → kept_bits ≡ cast_of t v
    unfolding cast_of
    cast_unsigned l = kept ∙ rw (← e, lt-leb 16 w l)

    module _ (g : 16 ≤ w) where
      w_is : w ≡ 16
      w_is = omega arith

      signed_is : cast_of t v ≡ wrap 16 v
      unfolding cast_of
      signed_is = rw (← e, w_is)

      kept16 : kept_bits ≡ pos (low 16 v)
      kept16 = kept ∙ ap (λ (k : ℕ). pos (low k v)) w_is

      pub cast_lower : lt_z kept_bits (pos 32768) ≡ true → kept_bits ≡ cast_of t v
      cast_lower l = kept16 ∙ sym (signed_is ∙ rw (rw kept16 at l))

      -- the upper half of 16 bits, less 2 ^ 16
      under : kept_bits -ℤ pos 65536 ≡ negsuc (65536 - suc (low 16 v))
      under = rw kept16 (minus (low 16 v) 65535 (low_lt 16 v))

      under-small : mag (kept_bits -ℤ pos 65536) < 2 ^ 31
      under-small = rw under (omega arith)

      pub cast_upper_fits : SFits w32 (kept_bits -ℤ pos 65536)
      cast_upper_fits = small under-small

      pub cast_upper : lt_z kept_bits (pos 32768) ≡ false → to_z w32 (of_z w32 (kept_bits -ℤ pos 65536)) ≡ cast_of t v
      cast_upper l = back cast_upper_fits ∙ under ∙ sym (signed_is ∙ rw (rw kept16 at l))
