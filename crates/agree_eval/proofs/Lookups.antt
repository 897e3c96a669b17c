-- What a name means does not change where nothing is declared: document 01, "a local hides any of them from its own name on".
use Prim.Native.Nat.{ℕ, zero, suc, ◌+◌, ◌-◌, ◌≤◌, ◌<◌}
use native.Mathlib.Omega.{arith}
use native.Mathlib.Decide.{ℕ_discrete}
use mathlib.Core.Path.{◌≡◌, refl, sym, ap, ◌∙◌}
use mathlib.Core.Bool.{Bool, true, false}
use mathlib.Core.List.{List}
use lib.ListN.{get_or}
use lib.Dec.{eqb, ltb}
use borrow.Author.Tests.{ltb-true, ltb-false, lt-ltb, le-ltb, ne_eqb, lt-leb}
use Rattle.base_codes.specs.Codes.{c_argument, c_declared, c_message, c_parameter}
use Rattle.base_bytes.specs.Choice.{pick}
use Rattle.rule_sheets.specs.Walks.{first}
use Rattle.rule_sheets.proofs.Walks.{first_most}
use Rattle.rule_search.specs.Sets.{among}
use Rattle.rule_search.specs.Search.{declares, find, lookup}

-- ---- the first that passes, over a longer stretch
module _ (p : ℕ → Bool) where
  all_fail : (a d : ℕ) → ((x : ℕ) → a ≤ x → x < a + d → p x ≡ false) → first p a d ≡ a + d
  unfolding first
  all_fail a zero h = omega arith
  all_fail a (suc d) h = rw (h a (omega arith) (omega arith)) (all_fail (a + 1) d (λ x u v. h x (omega arith) (omega arith)) ∙ omega arith)

  first-further : (a k d : ℕ) → first p a k < a + k → first p a (k + d) ≡ first p a k
  unfolding first
  first-further a zero d l = absurd (omega arith)
  first-further a (suc k) d l = let z : suc k + d ≡ suc (k + d) = omega arith in ap (first p a) z ∙ go (p a) l (first-further (a + 1) k d)
    where
      go : (b : Bool) → pick b a (first p (a + 1) k) < a + suc k → (first p (a + 1) k < a + 1 + k → first p (a + 1) (k + d) ≡ first p (a + 1) k)
          → pick b a (first p (a + 1) (k + d)) ≡ pick b a (first p (a + 1) k)
      go true l below = refl
      go false l below = below (omega arith)

  first-none : (a k d : ℕ) → ((x : ℕ) → a + k ≤ x → x < a + k + d → p x ≡ false) → first p a k ≡ a + k → first p a (k + d) ≡ a + k + d
  unfolding first
  first-none a zero d h l = let z : 0 + d ≡ d = omega arith in ap (first p a) z ∙ all_fail a d (λ x u v. h x (omega arith) (omega arith)) ∙ omega arith
  first-none a (suc k) d h l = let z : suc k + d ≡ suc (k + d) = omega arith in ap (first p a) z ∙ go (p a) l (first-none (a + 1) k d (λ x u v. h x (omega arith) (omega arith)))
    where
      go : (b : Bool) → pick b a (first p (a + 1) k) ≡ a + suc k → (first p (a + 1) k ≡ a + 1 + k → first p (a + 1) (k + d) ≡ a + 1 + k + d) → pick b a (first p (a + 1) (k + d)) ≡ a + suc k + d
      go true l below = absurd (omega arith)
      go false l below = below (omega arith) ∙ omega arith

  -- where the first stretch ends with one that passes
  pub first_reached : (a k d : ℕ) → p (a + k) ≡ true → first p a (k + d) ≡ first p a k
  unfolding first
  first_reached a zero zero e = refl
  first_reached a zero (suc d) e = let z : a + 0 ≡ a = omega arith in let w : 0 + suc d ≡ suc d = omega arith in ap (first p a) w ∙ ap (λ b. pick b a (first p (a + 1) d)) (ap p (sym z) ∙ e)
  first_reached a (suc k) d e =
      let z : suc k + d ≡ suc (k + d) = omega arith in
      let w : a + 1 + k ≡ a + suc k = omega arith in
      ap (first p a) z ∙ ap (λ y. pick (p a) a y) (first_reached (a + 1) k d (ap p w ∙ e))

-- ---- declarations
low-declares : (c : ℕ) → c < c_argument → among 1 c ≡ false
unfolding among
low-declares c h = rw (ne_eqb c c_declared (λ e. omega arith), ne_eqb c c_message (λ e. omega arith), lt-leb c_parameter c (omega arith))

module _ (cs vs hs : List ℕ) (i m : ℕ) (from : i ≤ m) (low : (x : ℕ) → i ≤ x → x < m → get_or cs x 0 < c_argument) where
  none-declares : (w h x : ℕ) → i ≤ x → x < m → declares cs vs hs 1 w h x ≡ false
  unfolding declares
  none-declares w h x a b = rw (low-declares (get_or cs x 0) (low x a b))

  find_most : (w h n : ℕ) → find cs vs hs 1 w h n ≤ n
  unfolding find
  find_most w h n = go (eqb w 0)
    where
      go : (b : Bool) → pick b n (first (declares cs vs hs 1 w h) 0 n) ≤ n
      go true = omega arith
      go false = omega (arith, first_most (declares cs vs hs 1 w h) 0 n)

  find-further : (w h : ℕ) → find cs vs hs 1 w h i < i → find cs vs hs 1 w h m ≡ find cs vs hs 1 w h i
  unfolding find
  find-further w h l = go (eqb w 0) l
    where
      go : (b : Bool) → pick b i (first (declares cs vs hs 1 w h) 0 i) < i → pick b m (first (declares cs vs hs 1 w h) 0 m) ≡ pick b i (first (declares cs vs hs 1 w h) 0 i)
      go true l = absurd (omega arith)
      go false l = let z : m ≡ i + (m - i) = omega arith in ap (first (declares cs vs hs 1 w h) 0) z ∙ first-further (declares cs vs hs 1 w h) 0 i (m - i) (omega arith)

  find_none : (w h : ℕ) → find cs vs hs 1 w h i ≡ i → find cs vs hs 1 w h m ≡ m
  unfolding find
  find_none w h l = go (eqb w 0) l
    where
      go : (b : Bool) → pick b i (first (declares cs vs hs 1 w h) 0 i) ≡ i → pick b m (first (declares cs vs hs 1 w h) 0 m) ≡ m
      go true l = refl
      go false l =
          let z : m ≡ i + (m - i) = omega arith in
          ap (first (declares cs vs hs 1 w h) 0) z ∙ first-none (declares cs vs hs 1 w h) 0 i (m - i) (λ x a b. none-declares w h x (omega arith) (omega arith)) (omega arith) ∙ omega arith

  -- ---- what a name means
  pub lookup_most : (w h n : ℕ) → lookup cs vs hs w h n ≤ n
  unfolding lookup
  lookup_most w h n = go (ltb (find cs vs hs 1 w h n) n)
    where
      go : (b : Bool) → pick b (find cs vs hs 1 w h n) (find cs vs hs 1 w 0 n) ≤ n
      go true = find_most w h n
      go false = find_most w 0 n

  pub lookup-further : (w h : ℕ) → lookup cs vs hs w h i < i → lookup cs vs hs w h m ≡ lookup cs vs hs w h i
  unfolding lookup
  lookup-further w h l = go (ltb (find cs vs hs 1 w h i) i) refl l
    where
      go : (b : Bool) → ltb (find cs vs hs 1 w h i) i ≡ b → pick b (find cs vs hs 1 w h i) (find cs vs hs 1 w 0 i) < i
          → pick (ltb (find cs vs hs 1 w h m) m) (find cs vs hs 1 w h m) (find cs vs hs 1 w 0 m) ≡ pick b (find cs vs hs 1 w h i) (find cs vs hs 1 w 0 i)
      go true e l = let z = find-further w h l in rw (lt-ltb (find cs vs hs 1 w h m) m (omega arith)) z
      go false e l =
          let z = find_none w h (let a = find_most w h i in let b = ltb-false (find cs vs hs 1 w h i) i e in omega arith) in
          rw (le-ltb (find cs vs hs 1 w h m) m (omega arith)) (find-further w 0 l)

  pub lookup-none : (w h : ℕ) → (lookup cs vs hs w h i < i → ⊥) → lookup cs vs hs w h m ≡ m
  unfolding lookup
  lookup-none w h l = go (ltb (find cs vs hs 1 w h i) i) refl l
    where
      go : (b : Bool) → ltb (find cs vs hs 1 w h i) i ≡ b → (pick b (find cs vs hs 1 w h i) (find cs vs hs 1 w 0 i) < i → ⊥)
          → pick (ltb (find cs vs hs 1 w h m) m) (find cs vs hs 1 w h m) (find cs vs hs 1 w 0 m) ≡ m
      go true e l = absurd (l (ltb-true (find cs vs hs 1 w h i) i e))
      go false e l =
          let z = find_none w h (let a = find_most w h i in let b = ltb-false (find cs vs hs 1 w h i) i e in omega arith) in
          rw (le-ltb (find cs vs hs 1 w h m) m (omega arith)) (find_none w 0 (equal (find_most w 0 i) l))
        where
          equal : find cs vs hs 1 w 0 i ≤ i → (find cs vs hs 1 w 0 i < i → ⊥) → find cs vs hs 1 w 0 i ≡ i
          equal a n = by (ℕ_discrete (find cs vs hs 1 w 0 i) i)
            where
              by : Dec (find cs vs hs 1 w 0 i ≡ i) → find cs vs hs 1 w 0 i ≡ i
              by (yes q) = q
              by (no q) = absurd (n (omega arith))
