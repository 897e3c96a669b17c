-- The laws of walks: one place more, and the end.
use Prim.Native.Nat.{ℕ, zero, suc, ◌+◌, ◌-◌, ◌≤◌, ◌<◌}
use mathlib.Core.Path.{◌≡◌, sym, ◌∙◌, ap}
use mathlib.Core.Bool.{Bool, true, false}
use mathlib.Core.List.{List}
use native.Mathlib.Omega.{arith}
use native.Mathlib.Nat.{add-zero, zero-add, add_assoc}
use native.Mathlib.Numerals.{add-one}
use lib.ListN.{set}
use Rattle.base_bytes.specs.Choice.{pick}
use Rattle.rule_sheets.specs.Walks.{first, after, sum, filled}

pub first_stop : (p : ℕ → Bool) (i k : ℕ) {b : Bool} → 0 < k → b ≡ p i → b ≡ true → i ≡ first p i k
unfolding first
first_stop p i zero h eb e = absurd (omega arith)
first_stop p i (suc k) h eb e = rw (← eb, e)

pub first_more : (p : ℕ → Bool) (i n : ℕ) {b : Bool} → i < n → b ≡ p i → b ≡ false → first p (i + 1) (n - (i + 1)) ≡ first p i (n - i)
unfolding first
first_more p i n h eb e = let s : n - i ≡ suc (n - (i + 1)) = omega arith in rw (s, ← eb, e)

pub first_end : (p : ℕ → Bool) (i k : ℕ) → k ≡ 0 → i ≡ first p i k
unfolding first
first_end p i k e = rw e

pub first_past : (p : ℕ → Bool) (i n : ℕ) → i ≡ n → n ≡ first p i (n - i)
first_past p i n e = sym e ∙ first_end p i (n - i) (omega arith)

pub first_most : (p : ℕ → Bool) (i k : ℕ) → first p i k ≤ i + k
unfolding first
first_most p i zero = omega arith
first_most p i (suc k) = here (p i) (first_most p (i + 1) k)
  where
    here : (b : Bool) → first p (i + 1) k ≤ i + 1 + k → pick b i (first p (i + 1) k) ≤ i + suc k
    here true h = omega arith
    here false h = omega arith

pub after_stop : (p : ℕ → Bool) (i j : ℕ) {b : Bool} → i ≡ suc j → b ≡ p j → b ≡ true → j + 1 ≡ after p i
unfolding after
after_stop p i j q eb e = rw (q, ← eb, e, add-one)

pub after_more : (p : ℕ → Bool) (i j : ℕ) {b : Bool} → i ≡ suc j → b ≡ p j → b ≡ false → after p j ≡ after p i
unfolding after
after_more p i j q eb e = rw (q, ← eb, e)

pub after_end : (p : ℕ → Bool) (i : ℕ) → i ≡ 0 → 0 ≡ after p i
unfolding after
after_end p i e = rw e

-- the sum so far and the rest of it
module _ (f : ℕ → ℕ) (i n s : ℕ) where
  pub sum_more : {r : ℕ} → i < n → r ≡ f i → s + r + sum f (i + 1) (n - (i + 1)) ≡ s + sum f i (n - i)
  unfolding sum
  sum_more h e = let q : n - i ≡ suc (n - (i + 1)) = omega arith in rw (q, e) (add_assoc s (f i) (sum f (i + 1) (n - (i + 1))))

  pub sum_end : n ≤ i → s ≡ s + sum f i (n - i)
  unfolding sum
  sum_end h = let q : n - i ≡ 0 = omega arith in rw (q, add-zero)

pub sum-start : (f : ℕ → ℕ) (i k : ℕ) → 0 + sum f i k ≡ sum f i k
sum-start f i k = zero-add (sum f i k)

module _ (f : List ℕ → ℕ → ℕ) (i n : ℕ) (l : List ℕ) where
  pub filled_more : (v : ℕ) (m : List ℕ) → i < n → v ≡ f l i → m ≡ set l i v → filled f (i + 1) (n - (i + 1)) m ≡ filled f i (n - i) l
  unfolding filled
  filled_more v m h e s = let q : n - i ≡ suc (n - (i + 1)) = omega arith in rw (q, s, e)

  pub filled_end : n ≤ i → l ≡ filled f i (n - i) l
  unfolding filled
  filled_end h = let q : n - i ≡ 0 = omega arith in rw q

-- from the start there are n - 0 places
pub first-start : (p : ℕ → Bool) (n : ℕ) → first p 0 (n - 0) ≡ first p 0 n
first-start p n = ap (first p 0) (omega arith)

pub filled-start : (f : List ℕ → ℕ → ℕ) (n : ℕ) (l : List ℕ) → filled f 0 (n - 0) l ≡ filled f 0 n l
filled-start f n l = ap (λ k. filled f 0 k l) (omega arith)

pub sum_from_start : (f : ℕ → ℕ) (n : ℕ) → 0 + sum f 0 (n - 0) ≡ sum f 0 n
sum_from_start f n = zero-add (sum f 0 (n - 0)) ∙ ap (sum f 0) (omega arith)
