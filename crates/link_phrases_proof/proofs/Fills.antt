-- Arrays filled from the front: a part at a time, what lies before stays, and the last place filled.
use Prim.Native.Nat.{ℕ, zero, suc, ◌+◌, ◌-◌, ◌≤◌, ◌<◌}
use native.Mathlib.Omega.{arith}
use native.Mathlib.Nat.{add-zero}
use mathlib.Core.Path.{◌≡◌, refl, ◌∙◌, ap}
use mathlib.Core.List.{List}
use lib.ListN.{length, get_or, set, length-set}
use lib.Seq.{get_or-set_same, get_or-set_other}
use Rattle.rule_sheets.specs.Walks.{filled}

module _ (f : List ℕ → ℕ → ℕ) where
  pub filled-length : (i k : ℕ) (l : List ℕ) → length (filled f i k l) ≡ length l
  unfolding filled
  filled-length i zero l = refl
  filled-length i (suc k) l = filled-length (i + 1) k (set l i (f l i)) ∙ length-set l i (f l i)

  pub filled_keeps : (i k : ℕ) (l : List ℕ) (j : ℕ) → j < i → get_or (filled f i k l) j 0 ≡ get_or l j 0
  unfolding filled
  filled_keeps i zero l j h = refl
  filled_keeps i (suc k) l j h = filled_keeps (i + 1) k (set l i (f l i)) j (omega arith) ∙ get_or-set_other l i j (f l i) 0 (λ e. omega arith)

  pub filled-split : (a b i n p : ℕ) (l : List ℕ) → n ≡ a + b → p ≡ i + a → filled f i n l ≡ filled f p b (filled f i a l)
  unfolding filled
  filled-split zero b i n p l e q = let e' : n ≡ b = omega arith in let q' : p ≡ i = omega arith in rw (e', q')
  filled-split (suc a) b i n p l e q =
      let m : n ≡ suc (a + b) = omega arith in
      rw m (filled-split a b (i + 1) (a + b) p (set l i (f l i)) refl (omega arith))

  pub filled-last : (k i n j : ℕ) (l : List ℕ) → n ≡ k + 1 → j ≡ i + k → j < length l → get_or (filled f i n l) j 0 ≡ f (filled f i k l) j
  unfolding filled
  filled-last k i n j l e q h =
      ap (λ (m : List ℕ). get_or m j 0) (filled-split k 1 i n j l e q)
      ∙ get_or-set_same (filled f i k l) j (f (filled f i k l) j) 0 (omega (arith, filled-length i k l))
