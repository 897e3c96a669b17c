-- The first item that passes a test.
use Prim.Native.Nat.{ℕ, zero, suc, ◌+◌, ◌≤◌, ◌<◌}
use mathlib.Core.Path.{◌≡◌, refl, sym, ap, subst, ◌∙◌}
use mathlib.Core.Bool.{Bool, true, false}
use native.Mathlib.Omega.{arith}
use native.Mathlib.Decide.{ℕ_discrete, dec_lt}
use Rattle.base_bytes.proofs.Tests.{true_false}
use Rattle.rule_sheets.specs.Walks.{first}

module _ (p : ℕ → Bool) where
  first_step : (i k : ℕ) → p i ≡ false → first p i (suc k) ≡ first p (i + 1) k
  unfolding first
  first_step i k e = rw e

  first_stop : (i k : ℕ) → p i ≡ true → first p i (suc k) ≡ i
  unfolding first
  first_stop i k e = rw e

  first-none : (i : ℕ) → first p i 0 ≡ i
  unfolding first
  first-none i = refl

  pub record First (i k f : ℕ) : Type 0 where
    pub from : i ≤ f
    pub to : f ≤ i + k
    pub holds : f < i + k → p f ≡ true
    pub before : (j : ℕ) → i ≤ j → j < f → p j ≡ false

  pub first_is : (k i : ℕ) → First i k (first p i k)
  first_is zero i = subst (First i 0) (sym (first-none i)) (record { from = omega arith; to = omega arith; holds = λ h. absurd (omega arith); before = λ j g h. absurd (omega arith) })
  first_is (suc k) i = go (p i) refl (first_is k (i + 1))
    where
      go : (b : Bool) → p i ≡ b → First (i + 1) k (first p (i + 1) k) → First i (suc k) (first p i (suc k))
      go true e r = subst (First i (suc k)) (sym (first_stop i k e)) (record { from = omega arith; to = omega arith; holds = λ h. e; before = λ j g h. absurd (omega arith) })
      go false e r =
          subst (First i (suc k)) (sym (first_step i k e))
          (record { from = let x = r.from in omega arith; to = let x = r.to in omega arith; holds = λ h. r.holds (omega arith); before = λ j g h. at j g h (ℕ_discrete j i) })
        where
          at : (j : ℕ) → i ≤ j → j < first p (i + 1) k → Dec (j ≡ i) → p j ≡ false
          at j g h (yes z) = ap p z ∙ e
          at j g h (no z) = r.before j (omega arith) h

  -- not behind one that passes
  pub first_most : (i k e : ℕ) → i ≤ e → p e ≡ true → first p i k ≤ e
  first_most i k e h q = go (dec_lt e (first p i k))
    where
      go : Dec (e < first p i k) → first p i k ≤ e
      go (yes g) = absurd (true_false (sym q ∙ (first_is k i).before e h g))
      go (no g) = omega arith
