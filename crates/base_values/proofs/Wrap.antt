-- Laws of the low bits, once over the number of bits: their bound and period, what they are of a sum and a product, and signed reading.
use Rattle.std.proofs.Common.{◌≡◌, ℕ, zero, suc, ◌+◌, ◌-◌, ◌*◌, ◌/◌, ◌%◌, ◌^◌, ◌<◌, ◌≤◌, Bool, true, false, cond, ltb, ℤ, pos, negsuc, ◌+ℤ◌, ◌*ℤ◌, sym, refl, ap, ◌∙◌, ap₂, mod-lt, mod-eq_of_lt, suc-mul, add-mul, pow-suc, mul-zero, zero-mul, mul-suc, arith, pow_pos, ltb-false, ltb-true, le-ltb, lt-ltb}
use native.Mathlib.Nat.{mod-eq-sub-mod, add-mod_right, mod-add-mod, mod-add-div', add-mul-mod_self_right}
use lib.IntN.{+ℤ_assoc, +ℤ_comm, +ℤ_idr, *ℤ_comm, *ℤ-zero, suc_ℤ-*ℤ}
use lib.Signed.{mag}
use lib.Arith.{comp_comp}
use Rattle.base_values.specs.Bits.{low, signed, wrap}

pub low_lt : (k : ℕ) (z : ℤ) → low k z < 2 ^ k
low_lt k (pos n) = mod-lt n (pow_pos k)
low_lt k (negsuc n) = omega (arith, pow_pos k)

-- ---- the low bits repeat with period 2 ^ k
period_neg : (M n : ℕ) (b : Bool) → ltb M (suc n) ≡ b → (k : ℕ) → 2 ^ k ≡ M → low k (cond b (negsuc (suc n - suc M)) (pos (M - suc n))) ≡ M - suc (n % M)
period_neg M n true h k e =
    let g : M ≤ n = omega (arith, ltb-true M (suc n) h) in
    rw (e, sub_suc_suc n M, mod-eq-sub-mod g)
  where
    sub_suc_suc : (n M : ℕ) → suc n - suc M ≡ n - M
    sub_suc_suc n M = omega arith
period_neg M n false h k e =
    let g : n < M = ltb-false M (suc n) h in
    rw (e, mod-eq_of_lt g, mod-eq_of_lt {n = M - suc n} {m = M} (omega arith))

pub low_period : (k : ℕ) (z : ℤ) → low k (z +ℤ pos (2 ^ k)) ≡ low k z
low_period k (pos n) = add-mod_right n (2 ^ k)
low_period k (negsuc n) = period_neg (2 ^ k) n (ltb (2 ^ k) (suc n)) refl k refl

low_periods : (k : ℕ) (z : ℤ) (q : ℕ) → low k (z +ℤ pos (q * 2 ^ k)) ≡ low k z
low_periods k z zero = rw (zero-mul (2 ^ k), +ℤ_idr z)
low_periods k z (suc q) =
    rw (suc-mul q (2 ^ k), ← +ℤ_assoc z (pos (q * 2 ^ k)) (pos (2 ^ k)), low_period k) (low_periods k z q)

-- z and its low bits differ by a multiple of 2 ^ k
record Near (k : ℕ) (z : ℤ) : Type 0 where
  up : ℕ
  down : ℕ
  is : z +ℤ pos (up * 2 ^ k) ≡ pos (low k z + down * 2 ^ k)

near : (k : ℕ) (z : ℤ) → Near k z
near k (pos n) = record { up = 0; down = n / 2 ^ k; is = ap pos (omega (arith, mod-add-div' n (2 ^ k))) }
near k (negsuc n) =
    let M : ℕ = 2 ^ k in
    let e : n % M + n / M * M ≡ n = mod-add-div' n M in
    let l : n % M < M = mod-lt n (pow_pos k) in
    let s : suc (n / M) * M ≡ n / M * M + M = suc-mul (n / M) M in
    record { up = suc (n / M); down = 0; is = rw (le-ltb (suc (n / M) * M) (suc n) (omega arith)) (ap pos (omega arith)) }

-- ---- the low bits of a sum, and of a product
exchange : (a b c d : ℤ) → a +ℤ b +ℤ c +ℤ d ≡ (a +ℤ c) +ℤ (b +ℤ d)
exchange a b c d = rw (+ℤ_assoc a b c, +ℤ_comm b c, ← +ℤ_assoc a c b, +ℤ_assoc (a +ℤ c) b d)

regroup : (x y p q M : ℕ) → ((x + p * M) + (y + q * M)) % M ≡ (x + y) % M
regroup x y p q M =
    let e : (p + q) * M ≡ p * M + q * M = add-mul p q M in
    let s : (x + p * M) + (y + q * M) ≡ (x + y) + (p + q) * M = omega arith in
    rw s (add-mul-mod_self_right (x + y) (p + q) M)

pub low_add : (k : ℕ) (a b : ℤ) → low k (a +ℤ b) ≡ (low k a + low k b) % 2 ^ k
low_add k a b =
    let x : Near k a = near k a in
    let y : Near k b = near k b in
    sym (low_periods k (a +ℤ b +ℤ pos (x.up * 2 ^ k)) y.up ∙ low_periods k (a +ℤ b) x.up)
    ∙ ap (low k) (exchange a b (pos (x.up * 2 ^ k)) (pos (y.up * 2 ^ k)) ∙ ap₂ ◌+ℤ◌ x.is y.is)
    ∙ regroup (low k a) (low k b) x.down y.down (2 ^ k)

pub low_mul : (k : ℕ) (a : ℤ) (n : ℕ) → low k (a *ℤ pos n) ≡ (low k a * n) % 2 ^ k
low_mul k a zero = rw (*ℤ-zero a, mul-zero (low k a))
low_mul k a (suc n) =
    rw (*ℤ_comm a (pos (suc n)), suc_ℤ-*ℤ (pos n) a, *ℤ_comm (pos n) a, low_add k (a *ℤ pos n) a, low_mul k a n, mul-suc (low k a) n, mod-add-mod)

-- ---- reading as signed
module _ (j : ℕ) where
  pub half : 2 ^ (suc j - 1) ≡ 2 ^ j
  half = ap (λ (i : ℕ). 2 ^ i) (omega arith)

  double : 2 ^ suc j ≡ 2 ^ j * 2
  double = pow-suc 2 j

  pub signed-fits : (u : ℕ) → u < 2 ^ suc j → mag (signed (suc j) u) < 2 ^ j
  signed-fits u h = rw half (go (ltb u (2 ^ j)) refl)
    where
      go : (t : Bool) → ltb u (2 ^ j) ≡ t → mag (cond t (pos u) (negsuc (2 ^ suc j - suc u))) < 2 ^ j
      go true e = ltb-true u (2 ^ j) e
      go false e = omega (arith, double, ltb-false u (2 ^ j) e)

  pub wrap-fits : (z : ℤ) → mag (wrap (suc j) z) < 2 ^ j
  wrap-fits z = signed-fits (low (suc j) z) (low_lt (suc j) z)

  pub wrap_id : (z : ℤ) → mag z < 2 ^ j → wrap (suc j) z ≡ z
  wrap_id (pos n) h =
      rw (half, mod-eq_of_lt {n = n} {m = 2 ^ suc j} (omega (arith, double)), lt-ltb n (2 ^ j) h)
  wrap_id (negsuc n) h =
      let f : n < 2 ^ suc j = omega (arith, double) in
      rw (half, mod-eq_of_lt f, le-ltb (2 ^ suc j - suc n) (2 ^ j) (omega (arith, double)), comp_comp f)

  pub wrap_period : (z : ℤ) → wrap (suc j) (z +ℤ pos (2 ^ suc j)) ≡ wrap (suc j) z
  wrap_period z = ap (signed (suc j)) (low_period (suc j) z)
