-- Walks over places: whether any passes a test, how many items of a set there are, and whether an earlier option of a selection begins with `else`.
use Prim.Native.Nat.{ℕ, zero, suc, ◌+◌, ◌-◌, ◌≤◌, ◌<◌}
use native.Mathlib.Omega.{arith}
use mathlib.Core.Path.{◌≡◌, refl, sym, ap, ap₂, ◌∙◌}
use mathlib.Core.Bool.{Bool, true, false}
use mathlib.Core.List.{List}
use lib.ListN.{get_or}
use lib.Dec.{eqb, ltb}
use borrow.Author.Tests.{lt-ltb, le-ltb, ne_eqb}
use Rattle.base_codes.specs.Codes.{c_do, c_else, c_fi, c_if, c_od, c_option}
use Rattle.base_bytes.specs.Choice.{pick, either}
use Rattle.base_bytes.proofs.Tests.{both_no}
use Rattle.rule_sheets.specs.Walks.{first, sum}
use Rattle.rule_search.specs.Search.{declares, find, one, count}
use Rattle.rule_item.specs.Rules.{depth_on, twin_at, twin}

-- ---- one below n passes the test
unfoldable pub any : (ℕ → Bool) → ℕ → Bool
any p zero = false
any p (suc n) = either (any p n) (p n)

pub any_next : (p : ℕ → Bool) (n : ℕ) → any p (suc n) ≡ either (any p n) (p n)
unfolding any
any_next p n = refl

either-last : (a : Bool) → either a true ≡ true
either-last true = refl
either-last false = refl

any-more : (p : ℕ → Bool) (k n : ℕ) → any p n ≡ true → any p (n + k) ≡ true
any-more p zero n e = ap (any p) (let z : n + 0 ≡ n = omega arith in z) ∙ e
any-more p (suc k) n e = ap (any p) (let z : n + suc k ≡ suc (n + k) = omega arith in z) ∙ any_next p (n + k) ∙ ap (λ (b : Bool). either b (p (n + k))) (any-more p k n e)

-- none does, where none does from a place to a place
pub any_none : (p : ℕ → Bool) (k n : ℕ) → ((j : ℕ) → n ≤ j → j < n + k → p j ≡ false) → any p (n + k) ≡ any p n
any_none p zero n h = ap (any p) (let z : n + 0 ≡ n = omega arith in z)
any_none p (suc k) n h =
    ap (any p) (let z : n + suc k ≡ suc (n + k) = omega arith in z) ∙ any_next p (n + k)
    ∙ ap₂ either (any_none p k n (λ j a b. h j a (omega arith))) (h (n + k) (omega arith) (omega arith)) ∙ off (any p n)
  where
    off : (a : Bool) → either a false ≡ a
    off true = refl
    off false = refl

pub any-zero : (p : ℕ → Bool) → any p 0 ≡ false
unfolding any
any-zero p = refl

found_from : (p : ℕ → Bool) (k i n : ℕ) → n ≡ i + k → any p i ≡ false → ltb (first p i k) n ≡ any p n
unfolding first
found_from p zero i n e a = le-ltb i n (omega arith) ∙ sym (ap (any p) (let z : n ≡ i = omega arith in z) ∙ a)
found_from p (suc k) i n e a = go (p i) refl (λ b. found_from p k (i + 1) n (omega arith) b)
  where
    go : (b : Bool) → p i ≡ b → (any p (i + 1) ≡ false → ltb (first p (i + 1) k) n ≡ any p n) → ltb (pick b i (first p (i + 1) k)) n ≡ any p n
    go true f r =
        lt-ltb i n (omega arith)
        ∙ sym (ap (any p) (let z : n ≡ suc i + k = omega arith in z) ∙ any-more p k (suc i) (any_next p i ∙ ap (either (any p i)) f ∙ either-last (any p i)))
    go false f r = r (ap (any p) (let z : i + 1 ≡ suc i = omega arith in z) ∙ any_next p i ∙ ap₂ either a f)

pub found_any : (p : ℕ → Bool) (n : ℕ) → ltb (first p 0 n) n ≡ any p n
found_any p n = found_from p n 0 n (omega arith) (any-zero p)

module _ (cs vs hs : List ℕ) where
  pub find-any : (set w h n : ℕ) → eqb w 0 ≡ false → ltb (find cs vs hs set w h n) n ≡ any (declares cs vs hs set w h) n
  unfolding find
  find-any set w h n e = rw e (found_any (declares cs vs hs set w h) n)

  pub find-pid : (set w h n : ℕ) → eqb w 0 ≡ true → find cs vs hs set w h n ≡ n
  unfolding find
  find-pid set w h n e = rw e refl

-- ---- how many there are
sum-last : (f : ℕ → ℕ) (n i : ℕ) → sum f i (suc n) ≡ sum f i n + f (i + n)
unfolding sum
sum-last f zero i = let e : f i ≡ f (i + 0) = ap f (let z : i ≡ i + 0 = omega arith in z) in omega arith
sum-last f (suc n) i = let e = sum-last f n (i + 1) in let g : f (i + 1 + n) ≡ f (i + suc n) = ap f (let z : i + 1 + n ≡ i + suc n = omega arith in z) in omega arith

pub count_next : (cs hs : List ℕ) (set h j : ℕ) → count cs hs set h 0 (suc j) ≡ count cs hs set h 0 j + one cs hs set h j
unfolding count
count_next cs hs set h j =
    ap (sum (one cs hs set h) 0) (let z : suc j - 0 ≡ suc j = omega arith in z) ∙ sum-last (one cs hs set h) j 0
    ∙ ap₂ ◌+◌ (ap (sum (one cs hs set h) 0) (let z : j ≡ j - 0 = omega arith in z)) (ap (one cs hs set h) (let z : 0 + j ≡ j = omega arith in z))

sum-none : (f : ℕ → ℕ) (n : ℕ) → ((j : ℕ) → j < n → f j ≡ 0) → sum f 0 n ≡ 0
unfolding sum
sum-none f zero h = refl
sum-none f (suc n) h =
    let a = sum-last f n 0 in let b = sum-none f n (λ j k. h j (omega arith)) in let c : f (0 + n) ≡ 0 = ap f (let z : 0 + n ≡ n = omega arith in z) ∙ h n (omega arith) in a ∙ omega arith

pub count_none : (cs hs : List ℕ) (set h n : ℕ) → ((j : ℕ) → j < n → one cs hs set h j ≡ 0) → count cs hs set h 0 n ≡ 0
unfolding count
count_none cs hs set h n f = ap (sum (one cs hs set h) 0) (let z : n - 0 ≡ n = omega arith in z) ∙ sum-none (one cs hs set h) n f

-- ---- going back over one item, by its code
module _ (cs : List ℕ) (k d c : ℕ) (it : get_or cs k 0 ≡ c) where
  pub twin-over : 1 ≤ d → either (eqb c c_fi) (eqb c c_od) ≡ false → either (eqb c c_if) (eqb c c_do) ≡ false → eqb c c_option ≡ false → twin cs (suc k) d ≡ twin cs k d
  unfolding twin twin_at depth_on
  twin-over h a b e = rw (it, ne_eqb d 0 (λ z. omega arith), a, b, e, both_no (eqb d 1) {b = false} refl) refl

  pub twin_in : 1 ≤ d → either (eqb c c_fi) (eqb c c_od) ≡ true → eqb c c_option ≡ false → twin cs (suc k) d ≡ twin cs k (d + 1)
  unfolding twin twin_at depth_on
  twin_in h a e = rw (it, ne_eqb d 0 (λ z. omega arith), a, e, both_no (eqb d 1) {b = false} refl) refl

  pub twin_out : 1 ≤ d → either (eqb c c_fi) (eqb c c_od) ≡ false → either (eqb c c_if) (eqb c c_do) ≡ true → eqb c c_option ≡ false → twin cs (suc k) d ≡ twin cs k (d - 1)
  unfolding twin twin_at depth_on
  twin_out h a b e = rw (it, ne_eqb d 0 (λ z. omega arith), a, b, e, both_no (eqb d 1) {b = false} refl) refl

pub twin-deep : (cs : List ℕ) (k d : ℕ) → get_or cs k 0 ≡ c_option → 2 ≤ d → twin cs (suc k) d ≡ twin cs k d
unfolding twin twin_at depth_on
twin-deep cs k d it h = rw (it, ne_eqb d 0 (λ z. omega arith), ne_eqb d 1 (λ z. omega arith)) refl

pub twin_option : (cs : List ℕ) (k : ℕ) → get_or cs k 0 ≡ c_option → twin cs (suc k) 1 ≡ pick (eqb (get_or cs (k + 1) 0) c_else) true (twin cs k 1)
unfolding twin twin_at depth_on
twin_option cs k it = rw it refl

-- the selection begins: nothing is found outside it
pub twin-outside : (cs : List ℕ) (k : ℕ) → twin cs k 0 ≡ false
unfolding twin twin_at depth_on
twin-outside cs zero = refl
twin-outside cs (suc k) = twin-outside cs k
