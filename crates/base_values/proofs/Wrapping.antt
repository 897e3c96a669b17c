-- Wrapping: products of 32-bit numbers by their low 32 bits.
use Rattle.std.proofs.Common.{◌≡◌, ℕ, zero, suc, ◌-◌, ◌*◌, ◌%◌, ◌^◌, ◌<◌, ◌≤◌, ℤ, pos, negsuc, ◌-ℤ◌, ◌*ℤ◌, neg_ℤ, ap, ◌∙◌, zero-le, le_refl, lt_of_lt_of_le, lt_of_le_of_lt, mul-le-mul, arith, lit<, lit≤, w32, w64, SFits, to_z, of_z, le-ltb}
use lib.Signed.{mag}
use mir.ValLaws.{to_z-of_z, to_z_pos}
use Rattle.base_values.specs.Bits.{low, signed, wrap32}
use Rattle.base_values.proofs.Wrap.{low_mul}
use Rattle.base_values.proofs.Machine.{small, back, read, bits32, minus}

-- ---- a 32-bit number as a 64-bit one
wide_fits : {z : ℤ} → SFits w32 z → SFits w64 z
wide_fits f = record { sfits = lt_of_lt_of_le f.sfits (lit≤ tt) }

pub widens : {z : ℤ} → SFits w32 z → SFits w64 (to_z w32 (of_z w32 z))
widens f = rw (back f) (wide_fits f)

-- as a call that takes 64 bits is handed it
abbrev pub handed : ℤ → ℤ
handed z = to_z w64 (of_z w64 (to_z w32 (of_z w32 z)))

wide : {z : ℤ} → SFits w32 z → handed z ≡ z
wide {z} f = rw (back f) (to_z-of_z w64 z (wide_fits f))

pub mag_neg : (r a : ℕ) → r ≤ suc a → mag (neg_ℤ (pos r)) ≤ a
mag_neg zero a h = zero-le
mag_neg (suc r) a h = omega arith

mag_mul : (a b : ℤ) → mag (a *ℤ b) ≤ suc (mag a) * suc (mag b)
mag_mul (pos a) (pos b) = mul-le-mul (omega arith) (omega arith)
mag_mul (pos a) (negsuc b) = let h : a * suc b ≤ suc a * suc b = mul-le-mul (omega arith) (omega arith) in mag_neg (a * suc b) (suc a * suc b) (omega arith)
mag_mul (negsuc a) (pos b) = let h : suc a * b ≤ suc a * suc b = mul-le-mul (omega arith) (omega arith) in mag_neg (suc a * b) (suc a * suc b) (omega arith)
mag_mul (negsuc a) (negsuc b) = le_refl _

-- ---- what the calls say of the bits, as facts of the numbers
module _ {a b : ℤ} (fa : SFits w32 a) (fb : SFits w32 b) where
  product : SFits w64 (a *ℤ b)
  product = record { sfits = lt_of_le_of_lt (mag_mul a b) (lt_of_le_of_lt (mul-le-mul fa.sfits fb.sfits) (lit< tt)) }

  pub product_fits : SFits w64 (handed a *ℤ handed b)
  product_fits = rw (wide fa, wide fb) product

  pub product_bits : {u : ℕ} → u ≡ low 32 (to_z w64 (of_z w64 (handed a *ℤ handed b))) → u ≡ low 32 (a *ℤ b)
  product_bits e = rw (wide fa, wide fb, to_z-of_z w64 (a *ℤ b) product) at e

pub left_bits : {a : ℤ} (n : ℕ) → SFits w32 a → to_z w32 ((of_z w32 a * 2 ^ n) % 2 ^ 32) ≡ wrap32 (a *ℤ pos (2 ^ n))
left_bits {a} n f = rw (bits32 f, ← low_mul 32 a (2 ^ n)) (read (low 32 (a *ℤ pos (2 ^ n))))

-- bits that are those of z, read as signed
pub wraps : (z : ℤ) {u : ℕ} {r : ℤ} → mag r < 2 ^ 31 → r ≡ signed 32 u → u ≡ low 32 z → to_z w32 (of_z w32 r) ≡ wrap32 z
wraps z h e g = back (small h) ∙ e ∙ ap (signed 32) g

-- ---- reading the upper half of 32 bits, by taking 2 ^ 32 away
module _ (u : ℕ) (f : u < 2 ^ 32) (h : 2 ^ 31 ≤ u) where
  abbrev under : ℤ
  under = to_z w64 u -ℤ pos (2 ^ 32)

  under_is : under ≡ negsuc (2 ^ 32 - suc u)
  under_is = rw (to_z_pos w64 u (omega arith)) (minus u 4294967295 f)

  under-small : SFits w32 under
  under-small = small (rw under_is (omega arith))

  pub under-fits : SFits w64 under
  under-fits = wide_fits under-small

  again : to_z w64 (of_z w64 under) ≡ under
  again = to_z-of_z w64 under under-fits

  pub under_narrows : SFits w32 (to_z w64 (of_z w64 under))
  under_narrows = rw again under-small

  pub under-read : to_z w32 (of_z w32 (to_z w64 (of_z w64 under))) ≡ signed 32 u
  under-read = rw again (back under-small ∙ under_is ∙ rw (le-ltb u 2147483648 h))
