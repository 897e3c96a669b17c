-- Laws of entries in a row, and of what is joined from them.
use Prim.Native.Nat.{ℕ, zero, suc, ◌+◌, ◌<◌}
use mathlib.Core.Path.{◌≡◌, refl, ap, ◌∙◌}
use mathlib.Core.List.{List, [], ◌∷◌, ◌++◌}
use native.Mathlib.Omega.{arith}
use lib.ListN.{length, get_or}
use Rattle.table_entries.specs.Entry.{Entry, joined, runs, nothing}

pub runs-more : (f : ℕ → Entry) (i : ℕ) {k k1 : ℕ} → k ≡ suc k1 → runs f i k ≡ f i ∷ runs f (i + 1) k1
unfolding runs
runs-more f i e = rw e

pub runs_end : (f : ℕ → Entry) (i : ℕ) {k : ℕ} → k ≡ 0 → runs f i k ≡ []
unfolding runs
runs_end f i e = rw e

pub length_runs : (f : ℕ → Entry) (i k : ℕ) → length (runs f i k) ≡ k
unfolding runs
length_runs f i zero = refl
length_runs f i (suc k) = omega (arith, length_runs f (i + 1) k)

pub runs_at : (f : ℕ → Entry) (i k j : ℕ) → j < k → get_or (runs f i k) j nothing ≡ f (i + j)
unfolding runs
runs_at f i zero j h = absurd (omega arith)
runs_at f i (suc k) zero h = ap f (omega arith)
runs_at f i (suc k) (suc j) h = runs_at f (i + 1) k j (omega arith) ∙ ap f (omega arith)

pub joined-more : (g : Entry → List ℕ) (f : ℕ → Entry) (i : ℕ) {k k1 : ℕ} → k ≡ suc k1 → joined g (runs f i k) ≡ g (f i) ++ joined g (runs f (i + 1) k1)
unfolding joined
joined-more g f i {k1 = n} e = rw (runs-more f i {k1 = n} e)

pub joined_end : (g : Entry → List ℕ) (f : ℕ → Entry) (i : ℕ) {k : ℕ} → k ≡ 0 → joined g (runs f i k) ≡ []
unfolding joined
joined_end g f i e = rw (runs_end f i e)
