-- Looking spellings up: among those that begin as a word does, none of another length or second byte; and two bytes as one number.
use mathlib.Core.Path.{◌≡◌, refl, sym, ap, ◌∙◌}
use mathlib.Core.Bool.{Bool, true, false}
use mathlib.Core.List.{List, [], ◌∷◌}
use Prim.Native.Nat.{ℕ, ◌+◌, ◌*◌, ◌<◌}
use native.Mathlib.Omega.{arith}
use native.Mathlib.Decide.{ℕ_discrete}
use borrow.Author.Tests.{eq-eqb, ne_eqb, ltb-true}
use lib.Dec.{eqb, ltb}
use lib.ListN.{length, get_or}
use Rattle.base_bytes.specs.Choice.{pick, both}
use Rattle.base_bytes.specs.Lists.{same}
use Rattle.base_bytes.proofs.Lists.{same_eq, same-differ}
use Rattle.base_bytes.proofs.Tests.{both_true, true_false}
use Rattle.base_kinds.specs.Kinds.{keywords}
use Rattle.spec_text.specs.Find.{find, keyword_of}
use Rattle.text_spellings.specs.First.{among}

-- a word and a spelling that differ in something are not the same
pub unlike : (f : List ℕ → ℕ) (w x : List ℕ) → (f w ≡ f x → ⊥) → same w x ≡ false
unlike f w x h = go (same w x) refl
  where
    go : (t : Bool) → same w x ≡ t → same w x ≡ false
    go true e = absurd (h (ap f (same_eq w x e)))
    go false e = e

pub told-apart : (f : List ℕ → ℕ) (w x : List ℕ) {n : ℕ} → f w ≡ n → eqb n (f x) ≡ false → same w x ≡ false
told-apart f w x {n} d e = unlike f w x (λ h. true_false (sym (eq-eqb n (f x) (sym d ∙ h)) ∙ e))

abbrev pub second : List ℕ → ℕ
second w = get_or w 1 0

pub find-among : (w : List ℕ) (xs : List (List ℕ)) (k : ℕ) → find w xs k ≡ among (get_or w 0 0) w xs k
unfolding find
find-among w [] k = refl
find-among w (x ∷ xs) k = go (ℕ_discrete (get_or w 0 0) (get_or x 0 0)) (find-among w xs (k + 1))
  where
    go : Dec (get_or w 0 0 ≡ get_or x 0 0) → find w xs (k + 1) ≡ among (get_or w 0 0) w xs (k + 1) →
        pick (same w x) k (find w xs (k + 1)) ≡ pick (both (eqb (get_or w 0 0) (get_or x 0 0)) (same w x)) k (among (get_or w 0 0) w xs (k + 1))
    go (yes p) e = rw (eq-eqb (get_or w 0 0) (get_or x 0 0) p, e) refl
    go (no p) e = rw (ne_eqb (get_or w 0 0) (get_or x 0 0) p, unlike (λ z. get_or z 0 0) w x p) e

pub by_first : (w : List ℕ) {b a : ℕ} → b ≡ a → b ≡ get_or w 0 0 → among a w keywords 38 ≡ keyword_of w
by_first w d e = rw (← d, e) (sym (find-among w keywords 38))

-- a word that is shorter than every spelling
unfoldable longer : List (List ℕ) → Bool
longer [] = true
longer (x ∷ xs) = both (ltb 1 (length x)) (longer xs)

shorter : (w : List ℕ) (xs : List (List ℕ)) (k : ℕ) → length w < 2 → longer xs ≡ true → find w xs k ≡ 0
unfolding find longer
shorter w [] k h e = refl
shorter w (x ∷ xs) k h e =
    let (p, q) = both_true (ltb 1 (length x)) (longer xs) e in
    rw (same-differ w x (λ d. omega (arith, ltb-true 1 (length x) p))) (shorter w xs (k + 1) h q)

pub too_short : (w : List ℕ) → length w < 2 → keyword_of w ≡ 0
unfolding longer
too_short w h = shorter w keywords 38 h refl

-- ---- marks of two bytes, as one number
pub two-split : (a b x y : ℕ) → b < 256 → y < 256 → a * 256 + b ≡ x * 256 + y → (a ≡ x) × (b ≡ y)
two-split a b x y h k e = omega arith

pub two-one : (a b x : ℕ) → same (a ∷ b ∷ []) (x ∷ []) ≡ false
unfolding same
two-one a b x = go (eqb a x)
  where
    go : (t : Bool) → both t false ≡ false
    go true = refl
    go false = refl

pub two-differ : (a b x y : ℕ) → (a * 256 + b ≡ x * 256 + y → ⊥) → same (a ∷ b ∷ []) (x ∷ y ∷ []) ≡ false
unfolding same
two-differ a b x y h = go (ℕ_discrete a x) (ℕ_discrete b y)
  where
    go : Dec (a ≡ x) → Dec (b ≡ y) → both (eqb a x) (both (eqb b y) true) ≡ false
    go (yes p) (yes q) = absurd (h (rw (p, q)))
    go (yes p) (no q) = rw (eq-eqb a x p, ne_eqb b y q)
    go (no p) d = rw (ne_eqb a x p)
