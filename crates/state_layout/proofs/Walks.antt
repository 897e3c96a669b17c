-- Laws of walks, for loops whose turn is one step of a walk up to m.
use Prim.Native.Nat.{ℕ, suc, ◌+◌, ◌-◌, ◌≤◌, ◌<◌}
use mathlib.Core.Path.{◌≡◌, refl, sym, ap, ◌∙◌}
use mathlib.Core.List.{List}
use native.Mathlib.Omega.{arith}
use lib.IntN.{ℤ}
use Rattle.state_layout.specs.Walks.{walk}

module _ (f : ℕ → List ℤ → List ℤ) where
  pub walk_start : (m : ℕ) (s : List ℤ) → walk f 0 (m - 0) s ≡ walk f 0 m s
  walk_start m s = ap (λ k. walk f 0 k s) (omega arith)

  one : (j n : ℕ) (s : List ℤ) → walk f j (suc n) s ≡ walk f (j + 1) n (f j s)
  unfolding walk
  one j n s = refl

  pub walk_more : (j m : ℕ) {s s' : List ℤ} → j < m → s' ≡ f j s → walk f (j + 1) (m - (j + 1)) s' ≡ walk f j (m - j) s
  walk_more j m {s} h e = let q : m - j ≡ suc (m - (j + 1)) = omega arith in ap (walk f (j + 1) (m - (j + 1))) e ∙ sym (ap (λ k. walk f j k s) q ∙ one j (m - (j + 1)) s)

  pub walk_end : (j m : ℕ) (s : List ℤ) → m ≤ j → s ≡ walk f j (m - j) s
  unfolding walk
  walk_end j m s h = let q : m - j ≡ 0 = omega arith in rw q
