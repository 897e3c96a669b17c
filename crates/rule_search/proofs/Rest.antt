-- What is left of a search from a place on, and that places which fail its test may be passed over. Assumes nothing.
use Prim.Native.Nat.{ℕ, zero, suc, ◌+◌, ◌-◌, ◌≤◌, ◌<◌}
use mathlib.Core.Path.{◌≡◌, refl, sym, ◌∙◌, ap}
use mathlib.Core.Bool.{Bool, true, false}
use native.Mathlib.Omega.{arith}
use native.Mathlib.Nat.{add-zero, zero-add, suc-add}
use lib.Dec.{ltb}
use borrow.Author.Tests.{ltb-true, ltb-false, lt-ltb, le-ltb}
use Rattle.base_bytes.specs.Choice.{pick}
use Rattle.rule_sheets.specs.Walks.{first}
use Rattle.rule_sheets.proofs.Walks.{first_stop, first_end, first-start}

-- the first that passes p from d on, below `to`; none: `to`
unfoldable pub rest : (ℕ → Bool) → ℕ → ℕ → ℕ
rest p d to = pick (ltb d to) (first p d (to - d)) to

-- ---- the first that passes a test: nothing in a block, and a block that has none
nothing : (p : ℕ → Bool) (i k : ℕ) → ((j : ℕ) → i ≤ j → j < i + k → p j ≡ false) → first p i k ≡ i + k
unfolding first
nothing p i zero h = omega arith
nothing p i (suc k) h = rw (h i (omega arith) (omega arith)) (nothing p (i + 1) k (λ j a b. h j (omega arith) (omega arith)) ∙ omega arith)

more : (p : ℕ → Bool) (i a b : ℕ) → i + a ≤ first p i a → first p i (a + b) ≡ first p (i + a) b
unfolding first
more p i zero b h = rw (zero-add b, add-zero i)
more p i (suc a) b h = rw (suc-add a b) (go (p i) h (more p (i + 1) a b))
  where
    go : (t : Bool) → i + suc a ≤ pick t i (first p (i + 1) a) → (i + 1 + a ≤ first p (i + 1) a → first p (i + 1) (a + b) ≡ first p (i + 1 + a) b) →
        pick t i (first p (i + 1) (a + b)) ≡ first p (i + suc a) b
    go true l on = absurd (omega arith)
    go false l on = let q : i + 1 + a ≡ i + suc a = omega arith in on (omega (arith, l)) ∙ ap (λ (k : ℕ). first p k b) q

-- ---- the rest of a search: inside, and at its end
module _ (p : ℕ → Bool) (d to : ℕ) where
  within : d < to → rest p d to ≡ first p d (to - d)
  unfolding rest
  within h = simp (lt-ltb d to h)

  ended : to ≤ d → rest p d to ≡ to
  unfolding rest
  ended h = simp (le-ltb d to h)

  pub rest_stop : {b : Bool} → d < to → b ≡ p d → b ≡ true → d ≡ rest p d to
  rest_stop h eb e = first_stop p d (to - d) (omega arith) eb e ∙ sym (within h)

  pub rest_end : to ≤ d → to ≡ rest p d to
  rest_end h = sym (ended h)

pub rest-whole : (p : ℕ → Bool) (to : ℕ) → rest p 0 to ≡ first p 0 to
rest-whole p zero = ended p 0 0 (omega arith) ∙ first_end p 0 0 refl
rest-whole p (suc k) = within p 0 (suc k) (omega arith) ∙ first-start p (suc k)

-- ---- places that fail the test
module _ (p : ℕ → Bool) (d e to : ℕ) (l : d ≤ e) (none : (i : ℕ) → d ≤ i → i < e → p i ≡ false) where
  pub skip : rest p e to ≡ rest p d to
  skip = go (ltb e to) refl (ltb d to) refl
    where
      inner : e < to → first p e (to - e) ≡ first p d (to - d)
      inner h =
          let q : to - d ≡ (e - d) + (to - e) = omega arith in
          let r : d + (e - d) ≡ e = omega arith in
          let n : first p d (e - d) ≡ d + (e - d) = nothing p d (e - d) (λ i a b. none i a (omega arith)) in
          sym (ap (first p d) q ∙ more p d (e - d) (to - e) (omega (arith, n)) ∙ ap (λ (k : ℕ). first p k (to - e)) r)

      outer : d < to → to ≤ e → to ≡ first p d (to - d)
      outer h k = sym (nothing p d (to - d) (λ i a b. none i a (omega arith)) ∙ omega arith)

      go : (s : Bool) → ltb e to ≡ s → (t : Bool) → ltb d to ≡ t → rest p e to ≡ rest p d to
      go true es t et = let h = ltb-true e to es in within p e to h ∙ inner h ∙ sym (within p d to (omega (arith, h)))
      go false es true et = let h = ltb-false e to es in ended p e to h ∙ outer (ltb-true d to et) h ∙ sym (within p d to (ltb-true d to et))
      go false es false et = ended p e to (ltb-false e to es) ∙ sym (ended p d to (ltb-false d to et))
