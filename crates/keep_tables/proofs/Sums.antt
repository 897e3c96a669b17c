-- Sums over items: of a part, and of nothing.
use Prim.Native.Nat.{ℕ, zero, suc, ◌+◌, ◌-◌, ◌≤◌, ◌<◌}
use mathlib.Core.Path.{◌≡◌, refl, ap, ◌∙◌}
use native.Mathlib.Omega.{arith}
use Rattle.rule_sheets.specs.Walks.{sum}

module _ (f : ℕ → ℕ) where
  sum-nothing : sum f 0 0 ≡ 0
  unfolding sum
  sum-nothing = refl

  -- the last of them apart
  pub sum-last : (n i : ℕ) → sum f i (suc n) ≡ sum f i n + f (i + n)
  unfolding sum
  sum-last zero i = let e : f i ≡ f (i + 0) = ap f (let z : i ≡ i + 0 = omega arith in z) in omega arith
  sum-last (suc n) i = let e = sum-last n (i + 1) in let g : f (i + 1 + n) ≡ f (i + suc n) = ap f (let z : i + 1 + n ≡ i + suc n = omega arith in z) in omega arith

  pub sum-next : (d : ℕ) → sum f 0 (d + 1) ≡ sum f 0 d + f d
  sum-next d = ap (sum f 0) (let z : d + 1 ≡ suc d = omega arith in z) ∙ sum-last d 0 ∙ ap (λ k. sum f 0 d + f k) (let z : 0 + d ≡ d = omega arith in z)

  pub sum-zero : (n : ℕ) → ((j : ℕ) → j < n → f j ≡ 0) → sum f 0 n ≡ 0
  sum-zero zero h = sum-nothing
  sum-zero (suc n) h = let a = sum-last n 0 in let b = sum-zero n (λ j g. h j (omega arith)) in let c : f (0 + n) ≡ 0 = ap f (let z : 0 + n ≡ n = omega arith in z) ∙ h n (omega arith) in omega arith

  -- two parts
  pub sum-split : (n m i : ℕ) → sum f i (n + m) ≡ sum f i n + sum f (i + n) m
  unfolding sum
  sum-split zero m i =
      let a : sum f i (0 + m) ≡ sum f i m = ap (sum f i) (let z : 0 + m ≡ m = omega arith in z) in
      let b : sum f (i + 0) m ≡ sum f i m = ap (λ k. sum f k m) (let z : i + 0 ≡ i = omega arith in z) in
      omega arith
  sum-split (suc n) m i =
      let a : sum f i (suc n + m) ≡ f i + sum f (i + 1) (n + m) = ap (sum f i) (let z : suc n + m ≡ suc (n + m) = omega arith in z) in
      let b = sum-split n m (i + 1) in
      let c : sum f (i + 1 + n) m ≡ sum f (i + suc n) m = ap (λ k. sum f k m) (let z : i + 1 + n ≡ i + suc n = omega arith in z) in
      omega arith

  pub sum_nones : (n i : ℕ) → ((j : ℕ) → i ≤ j → j < i + n → f j ≡ 0) → sum f i n ≡ 0
  unfolding sum
  sum_nones zero i h = refl
  sum_nones (suc n) i h = let a = h i (omega arith) (omega arith) in let b = sum_nones n (i + 1) (λ j p q. h j (omega arith) (omega arith)) in omega arith
