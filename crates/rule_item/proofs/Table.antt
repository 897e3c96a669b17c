-- A table made of a definition, and what stands in it.
use Prim.Native.Nat.{ℕ, zero, suc, ◌+◌, ◌<◌}
use mathlib.Core.Path.{◌≡◌, sym, ◌∙◌, ap}
use mathlib.Core.List.{List, [], ◌∷◌}
use native.Mathlib.Omega.{arith}
use native.Mathlib.Nat.{add-zero, zero-add}
use lib.ListN.{get_or}

unfoldable pub tabled : (ℕ → ℕ) → ℕ → ℕ → List ℕ
tabled f i zero = []
tabled f i (suc k) = f i ∷ tabled f (suc i) k

tabled-from : (f : ℕ → ℕ) (i k j : ℕ) → j < k → get_or (tabled f i k) j 0 ≡ f (i + j)
unfolding tabled
tabled-from f i zero j h = absurd (omega arith)
tabled-from f i (suc k) zero h = ap f (sym (add-zero i))
tabled-from f i (suc k) (suc j) h = tabled-from f (suc i) k j (omega arith) ∙ ap f (omega arith)

pub tabled_at : (f : ℕ → ℕ) (k j : ℕ) → j < k → get_or (tabled f 0 k) j 0 ≡ f j
tabled_at f k j h = tabled-from f 0 k j h ∙ ap f (zero-add j)
