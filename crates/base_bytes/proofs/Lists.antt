-- The laws of `same` and `pasted`.
use mathlib.Core.Path.{◌≡◌, refl, sym, ap, ap₂}
use mathlib.Core.Bool.{true, false}
use mathlib.Core.List.{List, [], ◌∷◌, append-nil}
use Prim.Native.Nat.{ℕ, suc, ◌+◌, ◌≤◌, ◌<◌, min}
use native.Mathlib.Omega.{arith}
use native.Mathlib.Numerals.{add-one}
use borrow.Author.Tests.{eq-eqb, ne_eqb, eqb-true}
use lib.Dec.{eqb}
use lib.Pointwise.{pointwise}
use lib.ListN.{length, get_or, drop, drop_of_length-le}
use lib.Seq.{drop-cons, take-length}
use Rattle.base_bytes.specs.Lists.{same, pasted}
use Rattle.base_bytes.proofs.Tests.{both_no, both_true, both_and, true_false}

-- it is what `==` of slices says
pub same_pointwise : (x y : List ℕ) → pointwise eqb x y ≡ same x y
unfolding same
same_pointwise [] [] = refl
same_pointwise [] (b ∷ y) = refl
same_pointwise (a ∷ x) [] = refl
same_pointwise (a ∷ x) (b ∷ y) = rw (same_pointwise x y) (both_and (eqb a b) (same x y))

pub same_stop : (x y : List ℕ) (k : ℕ) → k < length x → k < length y → (get_or x k 0 ≡ get_or y k 0 → ⊥) → same (drop k x) (drop k y) ≡ false
unfolding same
same_stop x y k hx hy e = rw (drop-cons x k 0 hx, drop-cons y k 0 hy, ne_eqb _ _ e)

pub same_more : (x y : List ℕ) (k : ℕ) → k < length x → k < length y → get_or x k 0 ≡ get_or y k 0 → same (drop k x) (drop k y) ≡ same (drop (k + 1) x) (drop (k + 1) y)
unfolding same
same_more x y k hx hy e = rw (drop-cons x k 0 hx, drop-cons y k 0 hy, eq-eqb _ _ e, add-one)

pub same_end : (x y : List ℕ) (k : ℕ) → length x ≤ k → length y ≤ k → same (drop k x) (drop k y) ≡ true
unfolding same
same_end x y k hx hy = rw (drop_of_length-le x hx, drop_of_length-le y hy)

pub same-differ : (x y : List ℕ) → (length x ≡ length y → ⊥) → same x y ≡ false
unfolding same
same-differ [] [] h = absurd (h refl)
same-differ [] (b ∷ ys) h = refl
same-differ (a ∷ xs) [] h = refl
same-differ (a ∷ xs) (b ∷ ys) h = both_no (eqb a b) (same-differ xs ys (λ e. h (ap suc e)))

-- what the test says
pub same_refl : (x : List ℕ) → same x x ≡ true
unfolding same
same_refl [] = refl
same_refl (a ∷ x) = rw (eq-eqb a a refl, same_refl x)

pub same_eq : (x y : List ℕ) → same x y ≡ true → x ≡ y
unfolding same
same_eq [] [] e = refl
same_eq [] (b ∷ y) e = absurd (true_false (sym e))
same_eq (a ∷ x) [] e = absurd (true_false (sym e))
same_eq (a ∷ x) (b ∷ y) e =
    let (p, q) = both_true (eqb a b) (same x y) e in
    ap₂ ◌∷◌ (eqb-true a b p) (same_eq x y q)

-- laid over as many as there are
pub paste_whole : (n : ℕ) (xs ys : List ℕ) → length xs ≡ n → length ys ≡ n → pasted n xs ys ≡ xs
paste_whole n xs ys ex ey =
    let e : min n (min (length xs) (length ys)) ≡ length xs = omega arith in
    rw (e, take-length xs, drop_of_length-le ys {i = length xs} (omega arith)) (append-nil xs)
