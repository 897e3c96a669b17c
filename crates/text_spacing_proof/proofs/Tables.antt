-- What is found in a table of spellings: its place is in the table's range, and it passes every test that the whole table passes.
use mathlib.Core.Path.{◌≡◌, refl, sym, ap, ◌∙◌}
use mathlib.Core.Bool.{Bool, true, false, not}
use mathlib.Core.Logic.{◌⊎◌, inl, inr}
use mathlib.Core.List.{List, [], ◌∷◌}
use Prim.Native.Nat.{ℕ, zero, suc, ◌+◌, ◌-◌, ◌≤◌, ◌<◌}
use native.Mathlib.Omega.{arith}
use borrow.Author.Tests.{lt-ltb, le-ltb, eq-eqb, ne_eqb, eqb-true, eqb-false}
use lib.Dec.{eqb, ltb}
use lib.ListN.{length, get_or}
use Rattle.base_bytes.specs.Choice.{pick, both}
use Rattle.base_bytes.specs.Lists.{same}
use Rattle.base_bytes.proofs.Tests.{both_true}
use Rattle.base_bytes.proofs.Lists.{same_eq}
use Rattle.base_kinds.specs.Kinds.{marks, keywords}
use Rattle.spec_text.specs.Find.{find, or_else, keyword_of, word_kind}

-- 0, or a place of the table
abbrev Ranged : ℕ → ℕ → ℕ → Type 0
Ranged k n f = (f ≡ 0) ⊎ ((k ≤ f) × (f < k + n))

find_range : (x : List ℕ) (xs : List (List ℕ)) (k : ℕ) → Ranged k (length xs) (find x xs k)
unfolding find
find_range x [] k = inl refl
find_range x (y ∷ xs) k = go (same x y) (find_range x xs (k + 1))
  where
    go : (t : Bool) → Ranged (k + 1) (length xs) (find x xs (k + 1)) → Ranged k (suc (length xs)) (pick t k (find x xs (k + 1)))
    go true r = inr (omega arith, omega arith)
    go false (inl e) = inl e
    go false (inr (p)) = inr (omega (arith, p.0), omega (arith, p.1))

pub mark_range : (x : List ℕ) (k : ℕ) → find x marks 1 ≡ suc k → suc k < 38
mark_range x k e = go (find_range x marks 1)
  where
    go : Ranged 1 37 (find x marks 1) → suc k < 38
    go (inl z) = absurd (omega arith)
    go (inr p) = omega (arith, p.1)

pub word_range : (w : List ℕ) → (38 ≤ word_kind w) × (word_kind w < 71)
word_range w = go (find_range w keywords 38)
  where
    go : Ranged 38 32 (keyword_of w) → (38 ≤ word_kind w) × (word_kind w < 71)
    go (inl z) = rw (eq-eqb (keyword_of w) 0 z) (omega arith, omega arith)
    go (inr p) = rw (ne_eqb (keyword_of w) 0 (λ e. omega (arith, p.0))) (p.0, omega (arith, p.1))

pub keyword_below : (w : List ℕ) → keyword_of w < 70
keyword_below w = go (find_range w keywords 38)
  where
    go : Ranged 38 32 (keyword_of w) → keyword_of w < 70
    go (inl z) = omega arith
    go (inr p) = omega (arith, p.1)

-- a test of a whole table
abbrev pub every : (List ℕ → Bool) → List (List ℕ) → Bool
every f [] = true
every f (x ∷ xs) = both (f x) (every f xs)

pub found_passes : (f : List ℕ → Bool) (x : List ℕ) (xs : List (List ℕ)) (k : ℕ) → every f xs ≡ true → (find x xs k ≡ 0 → ⊥) → f x ≡ true
unfolding find
found_passes f x [] k e h = absurd (h refl)
found_passes f x (y ∷ xs) k e h = go (same x y) refl (both_true (f y) (every f xs) e) h (found_passes f x xs (k + 1))
  where
    go : (t : Bool) → same x y ≡ t → (f y ≡ true) × (every f xs ≡ true) → (pick t k (find x xs (k + 1)) ≡ 0 → ⊥) → (every f xs ≡ true → (find x xs (k + 1) ≡ 0 → ⊥) → f x ≡ true) → f x ≡ true
    go true q p g r = rw (same_eq x y q) p.0
    go false q p g r = r p.1 g

-- what a whole table fails is not found in it
pub fails_unfound : (f : List ℕ → Bool) (x : List ℕ) (xs : List (List ℕ)) (k : ℕ) → every f xs ≡ true → f x ≡ false → find x xs k ≡ 0
fails_unfound f x xs k e h = go (find x xs k) refl
  where
    go : (n : ℕ) → find x xs k ≡ n → find x xs k ≡ 0
    go zero q = q
    go (suc n) q = absurd (Rattle.base_bytes.proofs.Tests.true_false (sym (found_passes f x xs k e (λ z. omega arith)) ∙ h))

-- what is found stands at its place
pub found_at : (x : List ℕ) (xs : List (List ℕ)) (k j : ℕ) → find x xs k ≡ j → (j ≡ 0 → ⊥) → get_or xs (j - k) [] ≡ x
unfolding find
found_at x [] k j e h = absurd (h (sym e))
found_at x (y ∷ xs) k j e h = go (same x y) refl e (found_at x xs (k + 1) j) (find_range x xs (k + 1))
  where
    go : (t : Bool) → same x y ≡ t → pick t k (find x xs (k + 1)) ≡ j → (find x xs (k + 1) ≡ j → (j ≡ 0 → ⊥) → get_or xs (j - (k + 1)) [] ≡ x) → Ranged (k + 1) (length xs) (find x xs (k + 1)) → get_or (y ∷ xs) (j - k) [] ≡ x
    go true q e r _ = let z : j - k ≡ 0 = omega arith in rw z (sym (same_eq x y q))
    go false q e r (inl w) = absurd (h (sym e ∙ w))
    go false q e r (inr w) = let z : j - k ≡ suc (j - (k + 1)) = omega (arith, w.0) in rw z (r e h)
