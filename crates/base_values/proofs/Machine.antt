-- What the machine's own operations on signed numbers give, in the words of the definitions: `of_z w` is a number's bits and `to_z w` reads bits as signed.
use Rattle.std.proofs.Common.{◌≡◌, ℕ, zero, suc, ◌+◌, ◌-◌, ◌*◌, ◌/◌, ◌%◌, ◌^◌, ◌<◌, ◌≤◌, Bool, true, false, cond, eqb, ltb, ℤ, pos, negsuc, ◌-ℤ◌, sym, refl, ap, ◌∙◌, subst, lt_of_lt_of_le, mod-lt, mod-eq_of_lt, suc-mul, div-lt_iff_lt-mul, add-mul, div-add-mod', arith, lit<, pow_pos, pow_mono, pow-add, w32, SFits, to_z, of_z, lt-ltb, eq-eqb, ne_eqb}
use native.Mathlib.Decide.{ℕ_discrete}
use lib.Signed.{mag}
use lib.Bits.{bit_and, and_mask}
use lib.Arith.{digits_mod}
use mir.Syntax.{Width}
use mir.Val.{bits, hbits, sel}
use mir.ValLaws.{to_z-of_z, to_z_pos, half_full, bits-suc}
use Rattle.base_values.specs.Bits.{low, signed}
use Rattle.base_values.specs.Operators.{same}
use Rattle.base_values.proofs.Wrap.{low_lt}

-- ---- a number of 32 bits, kept in a local and read again
pub small : {z : ℤ} → mag z < 2 ^ 31 → SFits w32 z
small h = record { sfits = h }

pub back : {z : ℤ} → SFits w32 z → to_z w32 (of_z w32 z) ≡ z
back {z} f = to_z-of_z w32 z f

-- ---- bits and their reading
sel_cond : (t : Bool) (x y : ℤ) → sel t x y ≡ cond t x y
sel_cond true x y = refl
sel_cond false x y = refl

pub read : (u : ℕ) → to_z w32 u ≡ signed 32 u
read u = sel_cond (ltb u 2147483648) (pos u) (negsuc (4294967296 - suc u))

-- q * M - (n + 1), where n is d * M + r
mod_under : (M q d r : ℕ) → r < M → d < q → (q * M - suc (d * M + r)) % M ≡ M - suc r
mod_under M q d r h k =
    let e : ℕ = q - suc d in
    let s : q * M ≡ (suc d + e) * M = ap (λ (x : ℕ). x * M) (omega arith) in
    let s₁ : (suc d + e) * M ≡ suc d * M + e * M = add-mul (suc d) e M in
    let s₂ : suc d * M ≡ d * M + M = suc-mul d M in
    let s₃ : q * M - suc (d * M + r) ≡ e * M + (M - suc r) = omega arith in
    rw s₃ (digits_mod e (omega arith))

mod_comp : (M q n : ℕ) → zero < M → n < q * M → (q * M - suc n) % M ≡ M - suc (n % M)
mod_comp M q n p h =
    subst (λ (x : ℕ). (q * M - suc x) % M ≡ M - suc (n % M)) (div-add-mod' n M)
    (mod_under M q (n / M) (n % M) (mod-lt n p) ((div-lt_iff_lt-mul p).1 h))

low_of : (w : Width) (k : ℕ) (v : ℤ) → k ≤ bits w → SFits w v → of_z w v % 2 ^ k ≡ low k v
low_of w k (pos n) h f = refl
low_of w k (negsuc n) h f =
    let s : bits w ≡ (bits w - k) + k = omega arith in
    let e : 2 ^ bits w ≡ 2 ^ (bits w - k) * 2 ^ k = ap (λ (x : ℕ). 2 ^ x) s ∙ pow-add 2 (bits w - k) k in
    rw e (mod_comp (2 ^ k) (2 ^ (bits w - k)) n (pow_pos k) (rw e at (half_full w f.sfits)))

pub bits32 : {v : ℤ} → SFits w32 v → of_z w32 v ≡ low 32 v
bits32 {v = pos n} f = sym (mod-eq_of_lt (omega (arith, f.sfits)))
bits32 {v = negsuc n} f = ap (λ (x : ℕ). 4294967296 - suc x) (sym (mod-eq_of_lt (omega (arith, f.sfits))))

-- the low k bits by a mask, at any number of bits below the width
pub masks : {w : Width} (k : ℕ) {v : ℤ} → k ≤ hbits w → SFits w v → to_z w (bit_and (of_z w v) (2 ^ k - 1)) ≡ pos (low k v)
masks {w} k {v} h f =
    rw (and_mask (of_z w v) k, low_of w k v (omega (arith, bits-suc w)) f)
    (to_z_pos w (low k v) (lt_of_lt_of_le (low_lt k v) (pow_mono h)))

-- taking 2 ^ k away from k bits
pub minus : (u m : ℕ) → u < suc m → pos u -ℤ pos (suc m) ≡ negsuc (suc m - suc u)
minus u m h = rw (lt-ltb u (suc m) h)

-- ---- tests of equality
pub eqb_of : (m n m' n' : ℕ) → (m ≡ n → m' ≡ n') → (m' ≡ n' → m ≡ n) → eqb m n ≡ eqb m' n'
eqb_of m n m' n' f g = go (ℕ_discrete m n)
  where
    go : Dec (m ≡ n) → eqb m n ≡ eqb m' n'
    go (yes e) = eq-eqb m n e ∙ sym (eq-eqb m' n' (f e))
    go (no h) = ne_eqb m n h ∙ sym (ne_eqb m' n' (λ e. h (g e)))

pub same_bits : (a b : ℤ) → SFits w32 a → SFits w32 b → eqb (of_z w32 a) (of_z w32 b) ≡ same a b
same_bits (pos a) (pos b) f g = refl
same_bits (pos a) (negsuc b) f g = ne_eqb a (4294967296 - suc b) (no f.sfits g.sfits)
  where
    no : a < 2 ^ 31 → b < 2 ^ 31 → a ≡ 4294967296 - suc b → ⊥
    no h k e = omega arith
same_bits (negsuc a) (pos b) f g = ne_eqb (4294967296 - suc a) b (no f.sfits g.sfits)
  where
    no : a < 2 ^ 31 → b < 2 ^ 31 → 4294967296 - suc a ≡ b → ⊥
    no h k e = omega arith
same_bits (negsuc a) (negsuc b) f g = eqb_of (4294967296 - suc a) (4294967296 - suc b) a b (λ e. omega (arith, f.sfits, g.sfits)) (λ e. omega arith)

pub zero_bits : {a : ℤ} → SFits w32 a → eqb (of_z w32 a) 0 ≡ same a (pos 0)
zero_bits {a} f = same_bits a (pos 0) f (small (lit< tt))
