-- The fold from the last item to the first.
use Prim.Native.Nat.{ℕ, suc, ◌+◌, ◌-◌, ◌≤◌}
use mathlib.Core.Path.{◌≡◌, ◌∙◌, ap}
use mathlib.Core.List.{List}
use native.Mathlib.Omega.{arith}
use lib.ListN.{length}
use Rattle.rule_least.specs.Faults.{joined, least_from, least_of}
use Rattle.rule_least.specs.declared.Fault.{Fault}
use Rattle.rule_least.specs.declared.Fault.TheVariants.{None}

module _ (cs vs hs ss ts toks : List ℕ) where
  pub least-none : (n : ℕ) {k : ℕ} → k ≡ 0 → None ≡ least_from cs vs hs ss ts toks n k
  unfolding least_from
  least-none n e = rw e

  pub least_more : (i j n : ℕ) {f g : Fault} → i ≡ j + 1 → i ≤ n → f ≡ least_from cs vs hs ss ts toks i (n - i) → g ≡ joined cs vs hs ss ts toks j f →
      g ≡ least_from cs vs hs ss ts toks j (n - j)
  unfolding least_from
  least_more i j n e h ef eg =
      let q : n - j ≡ suc (n - i) = omega arith in
      rw q (eg ∙ ap (joined cs vs hs ss ts toks j) (ef ∙ ap (λ m. least_from cs vs hs ss ts toks m (n - i)) e))

  pub least-whole : (j : ℕ) → j ≡ 0 → least_from cs vs hs ss ts toks j (length cs - j) ≡ least_of cs vs hs ss ts toks
  unfolding least_of
  least-whole j e = rw e (ap (least_from cs vs hs ss ts toks 0) (omega arith))
