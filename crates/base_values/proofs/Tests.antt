-- Tests as facts: two that both passed, and a function that computes to n at each of c numbers from lo on.
use Rattle.std.proofs.Common.{◌≡◌, ℕ, zero, suc, ◌+◌, ◌<◌, ◌≤◌, Bool, true, false, ◌&&◌, eqb, sym, refl, ap, ◌∙◌, ⊎_elim, eq-or-lt_of_le, arith, eqb-true}

pub both : (x y : Bool) → (x && y) ≡ true → (x ≡ true) × (y ≡ true)
both true y e = (refl, e)
both false y e = (cc, cc)

abbrev pub all_are : (ℕ → ℕ) → ℕ → ℕ → ℕ → Bool
all_are f n lo zero = true
all_are f n lo (suc c) = eqb (f lo) n && all_are f n (suc lo) c

pub in_all : (f : ℕ → ℕ) (n lo c : ℕ) → all_are f n lo c ≡ true → (k : ℕ) → lo ≤ k → k < lo + c → n ≡ f k
in_all f n lo zero t k h g = omega arith
in_all f n lo (suc c) t k h g =
    let p : (eqb (f lo) n ≡ true) × (all_are f n (suc lo) c ≡ true) = both (eqb (f lo) n) (all_are f n (suc lo) c) t in
    ⊎_elim (λ e. sym (eqb-true (f lo) n p.0) ∙ ap f e) (λ l. in_all f n (suc lo) c p.1 k l (omega arith)) (eq-or-lt_of_le h)
