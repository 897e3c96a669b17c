-- Mechanism, held to the specification by `demand2` (crate `demands`).
-- Changing a state step by step.
use Rattle.std.specs.Prelude.{ℕ, zero, suc, ◌+◌, List, ℤ}

-- what f makes of a state at j, j + 1, .., n of them in turn
unfoldable pub walk : (ℕ → List ℤ → List ℤ) → ℕ → ℕ → List ℤ → List ℤ
walk f j zero s = s
walk f j (suc n) s = walk f (j + 1) n (f j s)
