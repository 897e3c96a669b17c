-- Laws of values that callers cite: a stored value is one of its type, a value of the type is stored as it is, and the operators stay in range.
-- Those of `wrap` are in Wrap.antt, over the number of bits: at 31 they are of `wrap32`.
use Rattle.std.proofs.Common.{◌≡◌, ℕ, suc, ◌^◌, ◌<◌, Bool, true, false, cond, not, ◌&&◌, ◌||◌, eqb, ltb, ℤ, pos, negsuc, ◌+ℤ◌, ◌-ℤ◌, ◌*ℤ◌, neg_ℤ, ap, ◌∙◌, lt_of_le_of_lt, mod-eq_of_lt, lit<, ltb-true, lt-ltb, eqb-true, Result, Ok, Err}
use lib.Signed.{mag, lt_z, le_z, quot_z, rem_z, shr_z, mag_rem, mag_shr}
use lib.Bits.{bit_and, bit_or, bit_xor, and_lt, or_lt, xor_lt}
use Rattle.base_values.specs.Bits.{low, wrap, wrap32}
use Rattle.base_values.specs.Types.{width_of, signed_width, keep, cast_of, within, in_type}
use Rattle.base_values.specs.Operators.{same, is_true, one_if, on_bits, shift_by, complement, divide_of, remainder_of, shift_left_of, shift_right_of, apply_of, unary_of}
use Rattle.base_values.specs.declared.Fault.{Fault}
use Rattle.base_values.specs.declared.Fault.TheVariants.{Divide, Shift}
use Rattle.base_values.proofs.Wrap.{low_lt, signed-fits, wrap-fits, wrap_id, half}

-- ---- what is kept of a number, once over its bits
keep-within : (s : Bool) (j : ℕ) (z : ℤ) → within s (suc j) (keep s (suc j) z) ≡ true
keep-within true j z = ap (ltb (mag (wrap (suc j) z))) (half j) ∙ lt-ltb (mag (wrap (suc j) z)) (2 ^ j) (wrap-fits j z)
keep-within false j z = lt-ltb (low (suc j) z) (2 ^ suc j) (low_lt (suc j) z)

keep_id : (s : Bool) (j : ℕ) (z : ℤ) → within s (suc j) z ≡ true → keep s (suc j) z ≡ z
keep_id true j z e = wrap_id j z (ltb-true (mag z) (2 ^ j) (rw (half j) at e))
keep_id false j (pos n) e = ap pos (mod-eq_of_lt (ltb-true n (2 ^ suc j) e))
keep_id false j (negsuc n) e = cc

-- ---- types
-- what holds of 1, 8, 16 and 32 bits holds of every type's width
pub at_width : (P : ℕ → Type 0) → P 1 → P 8 → P 16 → P 32 → (t : ℕ) → P (width_of t)
unfolding width_of
at_width P p₁ p₈ p₁₆ p₃₂ t = go (ltb t 38) (ltb t 40) (ltb t 44) (ltb t 45)
  where
    go : (a b c d : Bool) → P (cond a 32 (cond b 1 (cond c 8 (cond d 16 32))))
    go true b c d = p₃₂
    go false true c d = p₁
    go false false true d = p₈
    go false false false true = p₁₆
    go false false false false = p₃₂

pub cast_in_range : (t : ℕ) (v : ℤ) → in_type t (cast_of t v) ≡ true
unfolding in_type cast_of
cast_in_range t v =
    at_width (λ k. within (signed_width k) k (keep (signed_width k) k v) ≡ true)
    (keep-within false 0 v) (keep-within false 7 v) (keep-within true 15 v) (keep-within true 31 v) t

pub cast_id : (t : ℕ) (v : ℤ) → in_type t v ≡ true → cast_of t v ≡ v
unfolding in_type cast_of
cast_id t v =
    at_width (λ k. within (signed_width k) k v ≡ true → keep (signed_width k) k v ≡ v)
    (keep_id false 0 v) (keep_id false 7 v) (keep_id true 15 v) (keep_id true 31 v) t

pub cast_twice : (t : ℕ) (v : ℤ) → cast_of t (cast_of t v) ≡ cast_of t v
cast_twice t v = cast_id t (cast_of t v) (cast_in_range t v)

-- ---- equality
pub same_eq : (a b : ℤ) → same a b ≡ true → a ≡ b
same_eq (pos a) (pos b) e = ap pos (eqb-true a b e)
same_eq (negsuc a) (negsuc b) e = ap negsuc (eqb-true a b e)
same_eq (pos a) (negsuc b) e = cc
same_eq (negsuc a) (pos b) e = cc

-- ---- 32 bits
-- ---- operators
abbrev pub Small : Result ℤ Fault → Type 0
Small (Ok r) = mag r < 2 ^ 31
Small (Err f) = Unit {0}

either : {A : Type 0} (P : A → Type 0) (t : Bool) (x y : A) → P x → P y → P (cond t x y)
either P true x y p q = p
either P false x y p q = q

one-small : (t : Bool) → mag (one_if t) < 2 ^ 31
one-small true = lit< tt
one-small false = lit< tt

shift_small : (f : ℕ → ℤ) → ((n : ℕ) → mag (f n) < 2 ^ 31) → (b : ℤ) → Small (shift_by f b)
shift_small f h (pos n) = either Small (ltb n 32) (Ok (f n)) (Err Shift) (h n) tt
shift_small f h (negsuc n) = tt

module _ (a b : ℤ) where
  bits_small : (f : ℕ → ℕ → ℕ) → f (low 32 a) (low 32 b) < 2 ^ 32 → mag (on_bits f a b) < 2 ^ 31
  bits_small f h = signed-fits 31 (f (low 32 a) (low 32 b)) h

  pub apply_small : (op : ℕ) → mag a < 2 ^ 31 → Small (apply_of op a b)
  unfolding apply_of divide_of remainder_of shift_left_of shift_right_of
  apply_small op h =
      either Small (eqb op 1) _ _ (one-small (is_true a || is_true b))
      (either Small (eqb op 2) _ _ (one-small (is_true a && is_true b))
      (either Small (eqb op 3) _ _ (bits_small bit_or (or_lt 32 _ _ (low_lt 32 a) (low_lt 32 b)))
      (either Small (eqb op 4) _ _ (bits_small bit_xor (xor_lt 32 _ _ (low_lt 32 a) (low_lt 32 b)))
      (either Small (eqb op 5) _ _ (bits_small bit_and (and_lt 32 _ _ (low_lt 32 a) (low_lt 32 b)))
      (either Small (eqb op 6) _ _ (one-small (same a b))
      (either Small (eqb op 7) _ _ (one-small (not (same a b)))
      (either Small (eqb op 8) _ _ (one-small (lt_z a b))
      (either Small (eqb op 9) _ _ (one-small (le_z a b))
      (either Small (eqb op 10) _ _ (one-small (lt_z b a))
      (either Small (eqb op 11) _ _ (one-small (le_z b a))
      (either Small (eqb op 12) _ _ (shift_small (λ n. wrap32 (a *ℤ pos (2 ^ n))) (λ n. wrap-fits 31 (a *ℤ pos (2 ^ n))) b)
      (either Small (eqb op 13) _ _ (shift_small (λ n. shr_z a (2 ^ n)) (λ n. lt_of_le_of_lt (mag_shr a (2 ^ n)) h) b)
      (either Small (eqb op 14) _ _ (wrap-fits 31 (a +ℤ b))
      (either Small (eqb op 15) _ _ (wrap-fits 31 (a -ℤ b))
      (either Small (eqb op 16) _ _ (wrap-fits 31 (a *ℤ b))
      (either Small (eqb op 17) _ _ (either Small (same b (pos 0)) (Err Divide) (Ok (wrap32 (quot_z a b))) tt (wrap-fits 31 (quot_z a b)))
      (either Small (eqb op 18) _ _ (either Small (same b (pos 0)) (Err Divide) (Ok (rem_z a b)) tt (lt_of_le_of_lt (mag_rem a b) h)) h)))))))))))))))))

complement-small : (a : ℤ) → mag a < 2 ^ 31 → mag (complement a) < 2 ^ 31
complement-small (pos n) h = h
complement-small (negsuc n) h = h

pub unary_small : (a : ℤ) (op : ℕ) → mag a < 2 ^ 31 → mag (unary_of op a) < 2 ^ 31
unfolding unary_of
unary_small a op h =
    either (λ z. mag z < 2 ^ 31) (eqb op 15) _ _ (wrap-fits 31 (neg_ℤ a))
    (either (λ z. mag z < 2 ^ 31) (eqb op 19) _ _ (one-small (same a (pos 0)))
    (either (λ z. mag z < 2 ^ 31) (eqb op 20) _ _ (complement-small a h) h))
