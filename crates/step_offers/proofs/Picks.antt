-- Laws of looking for the k-th of a list.
use Prim.Native.Nat.{ℕ, zero, suc, ◌+◌, ◌-◌, min, ◌<◌, ◌≤◌}
use mathlib.Core.Path.{◌≡◌, refl, sym, ◌∙◌, ap}
use mathlib.Core.Bool.{Bool, true, false}
use mathlib.Core.List.{List, [], ◌∷◌, ◌++◌}
use native.Mathlib.Omega.{arith}
use lib.ListN.{length}
use Rattle.step_offers.specs.Offers.{pick_at, count_of, is_some, offers_most}
use Rattle.base_bytes.specs.Lists.{or_else}
use Rattle.step_offers.specs.declared.Walk.{Walk}
use Rattle.step_offers.specs.declared.Walk.TheVariants.{Found, Left}

pub pick-none : (k : ℕ) {xs : List ℕ} → xs ≡ [] → Left k ≡ pick_at k xs
unfolding pick_at
pick-none k e = rw e

pub pick_first : (k q : ℕ) → k ≡ 0 → Found q ≡ pick_at k (q ∷ [])
unfolding pick_at
pick_first k q e = rw e

pub pick-later : (k q : ℕ) → (k ≡ 0 → ⊥) → Left (k - 1) ≡ pick_at k (q ∷ [])
unfolding pick_at
pick-later zero q h = absurd (h refl)
pick-later (suc k) q h = ap Left (omega arith)

left-same : {k l : ℕ} → Left k ≡ Left l → k ≡ l
left-same e = cc

pub pick_found : (k : ℕ) {i : ℕ} (xs ys : List ℕ) → pick_at k xs ≡ Found i → pick_at k (xs ++ ys) ≡ Found i
unfolding pick_at
pick_found k [] ys e = absurd (let z : ◌≡◌ {A = ℕ} 0 1 = cc in omega arith)
pick_found zero (x ∷ xs) ys e = e
pick_found (suc k) (x ∷ xs) ys e = pick_found k xs ys e

pub pick-left : (k : ℕ) {l : ℕ} (xs ys : List ℕ) → pick_at k xs ≡ Left l → pick_at k (xs ++ ys) ≡ pick_at l ys
unfolding pick_at
pick-left k [] ys e = let h : k ≡ _ = left-same e in ap (λ n. pick_at n ys) h
pick-left zero (x ∷ xs) ys e = absurd (let z : ◌≡◌ {A = ℕ} 0 1 = cc in omega arith)
pick-left (suc k) (x ∷ xs) ys e = pick-left k xs ys e

-- fewer are left by as many as the list has
pub pick_less : (k : ℕ) {l : ℕ} (xs : List ℕ) → pick_at k xs ≡ Left l → l + length xs ≡ k
unfolding pick_at
pick_less k [] e = let h : k ≡ _ = left-same e in omega arith
pick_less zero (x ∷ xs) e = absurd (let z : ◌≡◌ {A = ℕ} 0 1 = cc in omega arith)
pick_less (suc k) (x ∷ xs) e = let h = pick_less k xs e in omega arith

pub pick_more : (k : ℕ) {i : ℕ} (xs : List ℕ) → pick_at k xs ≡ Found i → k < length xs
unfolding pick_at
pick_more k [] e = absurd (let z : ◌≡◌ {A = ℕ} 0 1 = cc in omega arith)
pick_more zero (x ∷ xs) e = omega arith
pick_more (suc k) (x ∷ xs) e = let h = pick_more k xs e in omega arith

pub or_found : (k : ℕ) {i : ℕ} (xs ys : List ℕ) → pick_at k xs ≡ Found i → pick_at k (or_else xs ys) ≡ Found i
unfolding pick_at
or_found k [] ys e = absurd (let z : ◌≡◌ {A = ℕ} 0 1 = cc in omega arith)
or_found k (x ∷ xs) ys e = e

pub or_left : (k : ℕ) {l : ℕ} (xs ys : List ℕ) → pick_at k xs ≡ Left l → (l ≡ k → ⊥) → pick_at k (or_else xs ys) ≡ Left l
unfolding pick_at
or_left k [] ys e h = absurd (h (sym (left-same e)))
or_left k (x ∷ xs) ys e h = e

pub or_else_lem : (k : ℕ) {l : ℕ} (xs ys : List ℕ) → pick_at k xs ≡ Left l → l ≡ k → pick_at k (or_else xs ys) ≡ pick_at k ys
or_else_lem k [] ys e h = refl
or_else_lem k (x ∷ xs) ys e h = absurd (let g = pick_less k (x ∷ xs) e in omega arith)

-- ---- what is learnt of the list
module _ (xs : List ℕ) {w : Walk} where
  pub some_found : w ≡ pick_at 0 xs → {i : ℕ} → w ≡ Found i → true ≡ is_some xs
  some_found e h = go xs (sym e ∙ h)
    where
      go : {i : ℕ} (xs : List ℕ) → pick_at 0 xs ≡ Found i → true ≡ is_some xs
      go [] e = absurd (let z = pick_more 0 [] e in omega arith)
      go (x ∷ xs) e = refl

  pub none_found : w ≡ pick_at 0 xs → {l : ℕ} → w ≡ Left l → false ≡ is_some xs
  none_found e h = go xs (sym e ∙ h)
    where
      go : {l : ℕ} (xs : List ℕ) → pick_at 0 xs ≡ Left l → false ≡ is_some xs
      go [] e = refl
      go (x ∷ xs) e = absurd (let z = pick_less 0 (x ∷ xs) e in omega arith)

  pub count-all : w ≡ pick_at offers_most xs → {i : ℕ} → w ≡ Found i → offers_most ≡ count_of xs
  count-all e h = let z = pick_more offers_most xs (sym e ∙ h) in omega arith

  pub count_left : w ≡ pick_at offers_most xs → {l r : ℕ} → w ≡ Left l → r ≡ offers_most - l → r ≡ count_of xs
  count_left e h er = let z = pick_less offers_most xs (sym e ∙ h) in omega arith
