-- Laws of walks over items that stand one behind the other: a walk over them all is one over each part in turn, and items at which nothing is done change nothing. `t` are tables.
use Prim.Native.Nat.{ℕ, zero, suc, ◌+◌, ◌≤◌, ◌<◌}
use native.Mathlib.Omega.{arith}
use mathlib.Core.Path.{◌≡◌, refl, sym, ap, ◌∙◌}
use mathlib.Core.List.{List, [], ◌∷◌, ◌++◌}
use lib.ListN.{length, length-append}
use lib.IntN.{ℤ}
use Rattle.base_codes.specs.Items.{Item}
use Rattle.parse_code.specs.Code.{each}
use Rattle.base_codes.specs.Items as items
use Rattle.table_entries.specs.Items.{Known, AllKnown}
use Rattle.table_layout.specs.Access.{code_of}
use Rattle.state_layout.specs.Walks.{walk}
use Rattle.agree_eval.specs.Held.{Held}
use Rattle.agree_start.specs.Beginnings.{repeated}

module _ (f : ℕ → List ℤ → List ℤ) where
  pub walk_none : (j : ℕ) (s : List ℤ) → walk f j 0 s ≡ s
  unfolding walk
  walk_none j s = refl

  pub walk-one : (j n : ℕ) (s : List ℤ) → walk f j (suc n) s ≡ walk f (suc j) n (f j s)
  unfolding walk
  walk-one j n s = ap (λ k. walk f k n (f j s)) (let z : j + 1 ≡ suc j = omega arith in z)

  pub walk-both : (m n j : ℕ) (s : List ℤ) → walk f j (m + n) s ≡ walk f (j + m) n (walk f j m s)
  walk-both zero n j s = ap (λ k. walk f j k s) (let z : 0 + n ≡ n = omega arith in z) ∙ ap (λ k. walk f k n s) (let z : j ≡ j + 0 = omega arith in z) ∙ ap (walk f (j + 0) n) (sym (walk_none j s))
  walk-both (suc m) n j s =
      ap (λ k. walk f j k s) (let z : suc m + n ≡ suc (m + n) = omega arith in z) ∙ walk-one j (m + n) s ∙ walk-both m n (suc j) (f j s)
      ∙ ap (λ k. walk f k n (walk f (suc j) m (f j s))) (let z : suc j + m ≡ j + suc m = omega arith in z) ∙ ap (walk f (j + suc m) n) (sym (walk-one j m s))

  -- from another first item
  pub walk_from : (u n j : ℕ) (s : List ℤ) → walk (λ k x. f (u + k) x) j n s ≡ walk f (u + j) n s
  unfolding walk
  walk_from u zero j s = refl
  walk_from u (suc n) j s = walk_from u n (j + 1) (f (u + j) s) ∙ ap (λ k. walk f k n (f (u + j) s)) (let z : u + (j + 1) ≡ u + j + 1 = omega arith in z)

  -- over items
  abbrev pub over : List Item → ℕ → List ℤ → List ℤ
  over l j s = walk f j (length l) s

  pub over-both : (x y : List Item) (j k : ℕ) (s : List ℤ) → k ≡ j + length x → over (x ++ y) j s ≡ over y k (over x j s)
  over-both x y j k s e = ap (λ n. walk f j n s) (length-append x y) ∙ walk-both (length x) (length y) j s ∙ ap (λ i. over y i (over x j s)) (sym e)

  -- ---- items at which nothing is done
  module _ (t : List ℕ) where
    abbrev pub Mute : ℕ → Type 0
    Mute c = (j : ℕ) (s : List ℤ) → code_of t j ≡ c → f j s ≡ s

    abbrev pub Muted : List Item → Type 0
    Muted [] = Unit {0}
    Muted (x ∷ l) = (Known x → Mute (items.code_of x)) × Muted l

    pub over_muted : (l : List Item) (j : ℕ) (s : List ℤ) → Muted l → AllKnown l → Held t j l → over l j s ≡ s
    over_muted [] j s m k h = walk_none j s
    over_muted (x ∷ l) j s m k h = walk-one j (length l) s ∙ ap (walk f (suc j) (length l)) (m.0 k.0 j s h.0) ∙ over_muted l (suc j) s m.1 k.1 h.2

    pub muted_both : (x y : List Item) → Muted x → Muted y → Muted (x ++ y)
    muted_both [] y a b = b
    muted_both (c ∷ x) y a b = (a.0, muted_both x y a.1 b)

    pub muted_each : {A : Type 0} (g : A → List Item) → ((a : A) → Muted (g a)) → (l : List A) → Muted (each g l)
    muted_each g h [] = tt
    muted_each g h (a ∷ l) = muted_both (g a) (each g l) (h a) (muted_each g h l)

-- ---- by their places
pub walk_idle : (f : ℕ → List ℤ → List ℤ) (n j : ℕ) (s : List ℤ) → ((i : ℕ) (x : List ℤ) → j ≤ i → i < j + n → f i x ≡ x) → walk f j n s ≡ s
walk_idle f zero j s h = walk_none f j s
walk_idle f (suc n) j s h = walk-one f j n s ∙ ap (walk f (suc j) n) (h j s (omega arith) (omega arith)) ∙ walk_idle f n (suc j) s (λ i x a b. h i x (omega arith) (omega arith))

-- ---- the same again and again
pub walk-repeated : (g r : List ℤ → List ℤ) → ((s : List ℤ) → g s ≡ r s) → (n j : ℕ) (s : List ℤ) → walk (λ k x. g x) j n s ≡ repeated r n s
walk-repeated g r h zero j s = walk_none (λ k x. g x) j s
walk-repeated g r h (suc n) j s = walk-one (λ k x. g x) j n s ∙ walk-repeated g r h n (suc j) (g s) ∙ ap (repeated r n) (h s)
