-- Mechanism, held to the specification by `rules` (crate `legal_texts`).
-- Walks over the places of a list: the first that passes a test, the last, a sum, and an array filled from the front.
use Rattle.std.specs.Prelude.{ℕ, zero, suc, ◌+◌, Bool, List, set}
use Rattle.base_bytes.specs.Choice.{pick}

-- the first of i, i + 1, .., k of them, that passes p; i + k if none does
unfoldable pub first : (ℕ → Bool) → ℕ → ℕ → ℕ
first p i zero = i
first p i (suc k) = pick (p i) i (first p (i + 1) k)

-- one more than the last below i that passes p; 0 if none does
unfoldable pub after : (ℕ → Bool) → ℕ → ℕ
after p zero = 0
after p (suc i) = pick (p i) (suc i) (after p i)

-- the sum of what f gives at i, i + 1, .., k of them
unfoldable pub sum : (ℕ → ℕ) → ℕ → ℕ → ℕ
sum f i zero = 0
sum f i (suc k) = f i + sum f (i + 1) k

-- an array with k places from i on filled, one after the other: each with what f gives for the array as it is then
unfoldable pub filled : (List ℕ → ℕ → ℕ) → ℕ → ℕ → List ℕ → List ℕ
filled f i zero l = l
filled f i (suc k) l = filled f (i + 1) k (set l i (f l i))
