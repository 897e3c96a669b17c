-- WHAT NAMES MEAN DOES NOT CHANGE where nothing is declared: from item to item of the statements of a body every name has the same declaration.
use Prim.Native.Nat.{ℕ, zero, suc, ◌+◌, ◌-◌, ◌≤◌, ◌<◌}
use native.Mathlib.Omega.{arith}
use mathlib.Core.Path.{◌≡◌, refl, ap, ◌∙◌}
use mathlib.Core.Bool.{Bool, true, false}
use mathlib.Core.List.{List}
use lib.ListN.{get_or}
use lib.Dec.{eqb, ltb}
use borrow.Author.Tests.{ltb-true, ltb-false, lt-ltb, le-ltb, ne_eqb, lt-leb}
use Rattle.base_codes.specs.Codes.{c_declared, c_end_body, c_message, c_parameter}
use Rattle.base_bytes.specs.Choice.{pick}
use Rattle.spec_grammar.specs.Tree.{Name}
use Rattle.parse_code.specs.Code.{code}
use Rattle.rule_sheets.specs.Walks.{first}
use Rattle.rule_sheets.specs.Homes.{inside_of}
use Rattle.rule_search.specs.Sets.{among}
use Rattle.rule_search.specs.Search.{declares, find, lookup}
use Rattle.read_accepts_proof.specs.Meaning.{Accepts}
use Rattle.agree_eval.specs.Names.{first_name, codes_at, said_at, homes_at, meant_at, decl_at}

-- ---- the first of a stretch that is one longer, where the last does not pass
first-longer : (p : ℕ → Bool) (i k : ℕ) → p (i + k) ≡ false → first p i (suc k) ≡ pick (ltb (first p i k) (i + k)) (first p i k) (suc (i + k))
unfolding first
first-longer p i zero e = let z : i ≡ i + 0 = omega arith in rw (ap p z ∙ e, le-ltb i (i + 0) (omega arith)) (omega arith)
first-longer p i (suc k) e = go (p i) refl (first-longer p (i + 1) k (let z : i + 1 + k ≡ i + suc k = omega arith in ap p z ∙ e))
  where
    go : (b : Bool) → p i ≡ b → first p (i + 1) (suc k) ≡ pick (ltb (first p (i + 1) k) (i + 1 + k)) (first p (i + 1) k) (suc (i + 1 + k))
        → pick b i (first p (i + 1) (suc k)) ≡ pick (ltb (pick b i (first p (i + 1) k)) (i + suc k)) (pick b i (first p (i + 1) k)) (suc (i + suc k))
    go true q below = rw (lt-ltb i (i + suc k) (omega arith))
    go false q below = let z : i + 1 + k ≡ i + suc k = omega arith in below ∙ ap (λ n. pick (ltb (first p (i + 1) k) n) (first p (i + 1) k) (suc n)) z

-- a search to n that ends at n where it finds nothing, and the search to one more: where the last item is none
abbrev later : ℕ → ℕ → ℕ
later n x = pick (ltb x n) x (suc n)

-- codes of statements declare nothing
none-declared : (c : ℕ) → c < c_declared → among 1 c ≡ false
unfolding among
none-declared c h = rw (ne_eqb c c_declared (λ e. omega arith), ne_eqb c c_message (λ e. omega arith), lt-leb c_parameter c (omega arith))

module _ (cs vs hs : List ℕ) (n : ℕ) (low : get_or cs n 0 < c_declared) where
  no_declaration : (w h : ℕ) → declares cs vs hs 1 w h n ≡ false
  unfolding declares
  no_declaration w h = rw (none-declared (get_or cs n 0) low)

  find-longer : (w h : ℕ) → find cs vs hs 1 w h (suc n) ≡ later n (find cs vs hs 1 w h n)
  unfolding find
  find-longer w h = go (eqb w 0)
    where
      go : (b : Bool) → pick b (suc n) (first (declares cs vs hs 1 w h) 0 (suc n)) ≡ later n (pick b n (first (declares cs vs hs 1 w h) 0 n))
      go true = rw (le-ltb n n (omega arith))
      go false =
          let z : 0 + n ≡ n = omega arith in
          first-longer (declares cs vs hs 1 w h) 0 n (ap (declares cs vs hs 1 w h) z ∙ no_declaration w h)
          ∙ ap (λ k. pick (ltb (first (declares cs vs hs 1 w h) 0 n) k) (first (declares cs vs hs 1 w h) 0 n) (suc k)) z

  lookup-longer : (w h : ℕ) → lookup cs vs hs w h (suc n) ≡ later n (lookup cs vs hs w h n)
  unfolding lookup
  lookup-longer w h = rw (find-longer w h, find-longer w 0) (go (ltb (find cs vs hs 1 w h n) n) refl)
    where
      x : ℕ
      x = find cs vs hs 1 w h n

      go : (b : Bool) → ltb (find cs vs hs 1 w h n) n ≡ b
          → pick (ltb (later n (find cs vs hs 1 w h n)) (suc n)) (later n (find cs vs hs 1 w h n)) (later n (find cs vs hs 1 w 0 n))
          ≡ later n (pick b (find cs vs hs 1 w h n) (find cs vs hs 1 w 0 n))
      go true e = rw (e, lt-ltb x (suc n) (let z = ltb-true x n e in omega arith))
      go false e = rw (e, le-ltb (suc n) (suc n) (omega arith))

module _ (t : List ℕ) (a : Accepts t) where
  abbrev C : List ℕ
  C = codes_at t a

  inside-next : (n : ℕ) → get_or C n 0 < c_declared → inside_of C (suc n) ≡ inside_of C n
  unfolding inside_of
  inside-next n h = rw (le-ltb c_parameter (get_or C n 0) (omega arith), ne_eqb (get_or C n 0) c_end_body (λ e. omega arith))

  decl-next : (w : Name) (n : ℕ) → get_or C n 0 < c_declared → decl_at t a (suc n) w ≡ decl_at t a n w
  unfolding decl_at meant_at
  decl-next w n h =
      ap (λ k. pick (ltb (lookup C v o g k (suc n)) (suc n)) (lookup C v o g k (suc n)) f) (inside-next n h)
      ∙ ap (λ k. pick (ltb k (suc n)) k f) (lookup-longer C v o n h g (inside_of C n)) ∙ go (ltb x n) refl
    where
      v : List ℕ
      v = said_at t a

      o : List ℕ
      o = homes_at t a

      f : ℕ
      f = first_name w (code a.tree)

      g : ℕ
      g = get_or (said_at t a) (first_name w (code a.tree)) 0

      x : ℕ
      x = lookup C (said_at t a) (homes_at t a) (get_or (said_at t a) (first_name w (code a.tree)) 0) (inside_of C n) n

      go : (b : Bool) → ltb x n ≡ b → pick (ltb (pick b x (suc n)) (suc n)) (pick b x (suc n)) f ≡ pick b x f
      go true e = rw (lt-ltb x (suc n) (let z = ltb-true x n e in omega arith))
      go false e = rw (le-ltb (suc n) (suc n) (omega arith))

  -- no item from j to before i declares, begins or ends anything
  abbrev pub Quiet : ℕ → ℕ → Type 0
  Quiet j i = (x : ℕ) → j ≤ x → x < i → get_or (codes_at t a) x 0 < c_declared

  decl_on : (w : Name) (j d : ℕ) → Quiet j (j + d) → decl_at t a (j + d) w ≡ decl_at t a j w
  decl_on w j zero q = let z : j + 0 ≡ j = omega arith in ap (λ i. decl_at t a i w) z
  decl_on w j (suc d) q =
      let z : j + suc d ≡ suc (j + d) = omega arith in
      ap (λ i. decl_at t a i w) z ∙ decl-next w (j + d) (q (j + d) (omega arith) (omega arith)) ∙ decl_on w j d (λ x u b. q x u (omega arith))

  pub decl-same : (j i : ℕ) → j ≤ i → Quiet j i → decl_at t a i ≡ decl_at t a j
  decl-same j i h q =
      let z : i ≡ j + (i - j) = omega arith in
      let e : (w : Name) → decl_at t a i w ≡ decl_at t a j w = λ w. ap (λ k. decl_at t a k w) z ∙ decl_on w j (i - j) (λ x u b. q x u (omega arith)) in
      λ k w. e w k

  pub quiet-join : (j i k : ℕ) → Quiet j i → Quiet i k → Quiet j k
  quiet-join j i k f g x u b = go (ltb x i) refl
    where
      go : (c : Bool) → ltb x i ≡ c → get_or (codes_at t a) x 0 < c_declared
      go true e = f x u (ltb-true x i e)
      go false e = g x (ltb-false x i e) b
