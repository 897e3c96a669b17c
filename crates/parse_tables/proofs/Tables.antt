-- THE TABLES ARE THE PRODUCTIONS: what they choose is what the guide of `parse_grammar` chooses, and each right side is one of its nonterminal's, symbol for symbol.
-- The tests are computed by antt over the whole tables. Assumes nothing.
use Prim.Native.Nat.{ℕ, zero, suc, ◌+◌, ◌-◌, ◌*◌, ◌/◌, ◌%◌, ◌≤◌, ◌<◌}
use native.Mathlib.Omega.{arith}
use native.Mathlib.Nat.{not-suc-le-zero, le_of_suc-le-suc}
use mathlib.Core.Path.{◌≡◌, refl, sym, ap, subst, ◌∙◌}
use mathlib.Core.Bool.{Bool, true, false, cond}
use mathlib.Core.Option.{Option, none, some}
use mathlib.Core.List.{List, [], ◌∷◌, map}
use lib.ListN.{length, get_or}
use lib.Dec.{T, eqb, ltb, eqb→eq}
use borrow.Author.Tests.{ne_eqb}
use Rattle.base_codes.specs.Codes.{c_or_else}
use Rattle.base_codes.specs.Items.{Item}
use Rattle.parse_grammar.specs.Engine.{In, here, there, is_some, pick, first, choose, finish}
use Rattle.parse_grammar.specs.Productions.{NT, e1, Right, prods, G}
use Rattle.parse_grammar.specs.Guide.{U}
use Rattle.parse_grammar.proofs.Tests.{below, below_out, Fits}
use Rattle.parse_grammar.proofs.Inst.{good}
use Rattle.parse_tables.specs.Numbering.{nonterminals, nth, nonterminal, symbol}
use Rattle.parse_tables.specs.Tables.{choices, bases, rights, numbered, production, production_by, span, right}
use Rattle.parse_tables.proofs.Table.{at}

-- ---- which of a list passes a test, counted from j; 0 where none does
abbrev pub which : {X : Type 0} → (X → Bool) → ℕ → List X → ℕ
which f j [] = 0
which f j (r ∷ l) = cond (f r) j (which f (suc j) l)

which-none : {X : Type 0} (f : X → Bool) (l : List X) (j : ℕ) → which f (suc j) l ≡ 0 → pick f l ≡ none
which-none f [] j e = refl
which-none f (r ∷ l) j e = go (f r) e (which-none f l (suc j))
  where
    go : (b : Bool) → cond b (suc j) (which f (suc (suc j)) l) ≡ 0 → (which f (suc (suc j)) l ≡ 0 → pick f l ≡ none) → cond b (some r) (pick f l) ≡ none
    go true e' h = absurd (let z : suc j ≡ 0 = e' in omega arith)
    go false e' h = h e'

-- the m-th of l is the first that passes
record Found {X : Type 0} (f : X → Bool) (l : List X) (d : X) (j c : ℕ) : Type 0 where
  m : ℕ
  is : c ≡ j + m
  inside : m < length l
  picked : pick f l ≡ some (nth l m d)
  passes : T (f (nth l m d))

which-some : {X : Type 0} (f : X → Bool) (d : X) (l : List X) (j c : ℕ) → which f j l ≡ c → (c ≡ 0 → ⊥) → Found f l d j c
which-some f d [] j c e ne = absurd (ne (sym e))
which-some f d (r ∷ l) j c e ne = go (f r) refl e (λ e'. which-some f d l (suc j) c e' ne)
  where
    shift : Found f l d (suc j) c → f r ≡ false → Found f (r ∷ l) d j c
    shift w h = record { m = suc w.m; is = omega (arith, w.is); inside = omega (arith, w.inside); picked = ap (λ (b : Bool). cond b (some r) (pick f l)) h ∙ w.picked; passes = w.passes }

    go : (b : Bool) → f r ≡ b → cond b j (which f (suc j) l) ≡ c → (which f (suc j) l ≡ c → Found f l d (suc j) c) → Found f (r ∷ l) d j c
    go true h e' ih = record { m = 0; is = omega arith; inside = omega arith; picked = ap (λ (b : Bool). cond b (some r) (pick f l)) h; passes = rw h tt }
    go false h e' ih = shift (ih e') h

-- ---- what the table chooses
abbrev by_kind : NT → ℕ → Right → Bool
by_kind n i r = first G U r (U.fol n) i

abbrev by_end : Right → Bool
by_end r = is_some (finish G U r)

-- column 0 is the end of the text
abbrev chosen : NT → ℕ → ℕ
chosen n zero = which by_end 1 (prods n)
chosen n (suc i) = which (by_kind n (suc i)) 1 (prods n)

test : ℕ → ℕ → Bool
test i c = eqb (c - 48) (chosen (nth nonterminals (i / 74) e1) (i % 74))

tested : (i : ℕ) → i < length choices → T (test i (get_or choices i 0))
unfolding test choices
tested i h = at test choices tt i h

-- ---- the rows of right sides
abbrev rows_from : ℕ → ℕ → List Right
rows_from b zero = []
rows_from b (suc k) = map symbol (right (suc b)) ∷ rows_from (suc b) k

abbrev Rows : ℕ → List NT → Type 0
Rows j [] = Unit {0}
Rows j (n ∷ l) = (prods n ≡ rows_from (get_or bases j 0) (length (prods n))) × Rows (suc j) l

rows : Rows 0 nonterminals
unfolding right span rights bases
rows = (refl, (refl, (refl, (refl, (refl, (refl, (refl, (refl, (refl, (refl, (refl, (refl, (refl, (refl, (refl, (refl, (refl, (refl, (refl, (refl, (refl, (refl, (refl, (refl, (refl, (refl, (refl, (refl, (refl, (refl, (refl, (refl, (refl, (refl, (refl, (refl, (refl, (refl, (refl, (refl, (refl, (refl, (refl, (refl, (refl, (refl, (refl, (refl, (refl, (refl, (refl, (refl, (refl, (refl, (refl, (refl, (refl, (refl, (refl, (refl, (refl, (refl, (refl, (refl, (refl, (refl, (refl, (refl, (refl, (refl, (refl, (refl, (refl, (refl, tt))))))))))))))))))))))))))))))))))))))))))))))))))))))))))))))))))))))))))

row_at : (l : List NT) (i : ℕ) → Rows i l → (j : ℕ) → j < length l → prods (nth l j e1) ≡ rows_from (get_or bases (i + j) 0) (length (prods (nth l j e1)))
row_at [] i w j h = absurd (not-suc-le-zero h)
row_at (n ∷ l) i w zero h = let e : i + 0 ≡ i = omega arith in rw e w.0
row_at (n ∷ l) i w (suc j) h = let e : i + suc j ≡ suc i + j = omega arith in rw e (row_at l (suc i) w.1 j (le_of_suc-le-suc h))

in_rows : (b k m : ℕ) → m < k → nth (rows_from b k) m [] ≡ map symbol (right (b + suc m))
in_rows b zero m h = absurd (not-suc-le-zero h)
in_rows b (suc k) zero h = let e : b + 1 ≡ suc b = omega arith in rw e
in_rows b (suc k) (suc m) h = let e : b + suc (suc m) ≡ suc b + suc m = omega arith in rw e (in_rows (suc b) k m (le_of_suc-le-suc h))

nth_in : {X : Type 0} (l : List X) (m : ℕ) (d : X) → m < length l → In (nth l m d) l
nth_in [] m d h = absurd (not-suc-le-zero h)
nth_in (a ∷ l) zero d h = here
nth_in (a ∷ l) (suc m) d h = there (nth_in l m d (le_of_suc-le-suc h))

-- what is no kind chooses nothing, in the table and in the guide; and where the table has nothing for the end, the nonterminal is never empty
no_kind : ℕ → Bool
no_kind j = eqb (which (by_kind (nth nonterminals j e1) 0) 1 (prods (nth nonterminals j e1)) + which (by_kind (nth nonterminals j e1) 73) 1 (prods (nth nonterminals j e1))) 0

no_kind_all : (j : ℕ) → j < 74 → T (no_kind j)
unfolding no_kind
no_kind_all j h = below_out 74 no_kind tt j h

unless : Bool → Bool → Bool
unless true b = true
unless false true = false
unless false false = true

no_end : ℕ → Bool
no_end j = unless (ltb 0 (which by_end 1 (prods (nth nonterminals j e1)))) (is_some (U.nul (nth nonterminals j e1)))

no_end_all : (j : ℕ) → j < 74 → T (no_end j)
unfolding no_end unless
no_end_all j h = below_out 74 no_end tt j h

fits_eq : {A : Type 0} (x y : Option (List A)) → Fits x y → T (is_some x) → x ≡ y
fits_eq none y f t = absurd t
fits_eq (some a) none f t = absurd f
fits_eq (some a) (some b) f t = ap some f

numbered-suc : (c b : ℕ) → numbered (suc c) b ≡ b + suc c
numbered-suc c b = let ne : suc c ≡ 0 → ⊥ = (λ e. omega arith) in simp (ne_eqb (suc c) 0 ne)

none-twice : (a b : ℕ) → T (eqb (a + b) 0) → (a ≡ 0) × (b ≡ 0)
none-twice a b t = let e : a + b ≡ 0 = eqb→eq (a + b) 0 t in (omega arith, omega arith)

inside : (i : ℕ) → i < 5476 → i < length choices
unfolding choices
inside i h = h

module _ (x : ℕ) (lo : 73 ≤ x) (hi : x < c_or_else) where
  entry : (k : ℕ) → k < 74 → get_or choices ((x - 73) * 74 + k) 0 - 48 ≡ chosen (nonterminal x) k
  unfolding test
  entry k hk =
      let i : ℕ = (x - 73) * 74 + k in
      let q : i / 74 ≡ x - 73 = omega arith in
      let r : i % 74 ≡ k = omega arith in
      let t : T (eqb (get_or choices i 0 - 48) (chosen (nth nonterminals (i / 74) e1) (i % 74))) = tested i (inside i (omega arith)) in
      eqb→eq _ _ (rw (q, r) at t)

  is_numbered : (k : ℕ) → k < 74 → production x k ≡ numbered (chosen (nonterminal x) k) (get_or bases (x - 73) 0)
  unfolding production production_by
  is_numbered k hk = rw (entry k hk)

  nothing : (k : ℕ) → k < 74 → production x k ≡ 0 → chosen (nonterminal x) k ≡ 0
  nothing k hk e = go (chosen (nonterminal x) k) (sym (is_numbered k hk) ∙ e)
    where
      go : (c : ℕ) → numbered c (get_or bases (x - 73) 0) ≡ 0 → c ≡ 0
      go zero h = refl
      go (suc c) h = absurd (let z : get_or bases (x - 73) 0 + suc c ≡ 0 = sym (numbered-suc c (get_or bases (x - 73) 0)) ∙ h in omega arith)

  record Something (k : ℕ) : Type 0 where
    not_none : chosen (nonterminal x) k ≡ 0 → ⊥
    is : production x k ≡ get_or bases (x - 73) 0 + chosen (nonterminal x) k

  something : (k : ℕ) → k < 74 → (production x k ≡ 0 → ⊥) → Something k
  something k hk ne = go (chosen (nonterminal x) k) refl (is_numbered k hk)
    where
      go : (c : ℕ) → chosen (nonterminal x) k ≡ c → production x k ≡ numbered c (get_or bases (x - 73) 0) → Something k
      go zero e h = absurd (ne h)
      go (suc c) e h = record { not_none = λ z. (let y : suc c ≡ 0 = sym e ∙ z in omega arith); is = h ∙ numbered-suc c (get_or bases (x - 73) 0) ∙ ap (get_or bases (x - 73) 0 +◌) (sym e) }

  -- the right side of the number that the table has
  is_right : (m : ℕ) → m < length (prods (nonterminal x)) → nth (prods (nonterminal x)) m [] ≡ map symbol (right (get_or bases (x - 73) 0 + suc m))
  is_right m h =
      let e : 0 + (x - 73) ≡ x - 73 = omega arith in
      ap (λ (l : List Right). nth l m []) (rw e at (row_at nonterminals 0 rows (x - 73) (omega arith)))
      ∙ in_rows (get_or bases (x - 73) 0) (length (prods (nonterminal x))) m h

  found : (f : Right → Bool) (k : ℕ) → k < 74 → (ne : production x k ≡ 0 → ⊥) → chosen (nonterminal x) k ≡ which f 1 (prods (nonterminal x)) →
      (m : ℕ) × (m < length (prods (nonterminal x))) × (production x k ≡ get_or bases (x - 73) 0 + suc m) × (pick f (prods (nonterminal x)) ≡ some (map symbol (right (production x k)))) × T (f (map symbol (right (production x k)))) × (nth (prods (nonterminal x)) m [] ≡ map symbol (right (production x k)))
  found f k hk ne e =
      let s = something k hk ne in
      let w = which-some f [] (prods (nonterminal x)) 1 (chosen (nonterminal x) k) (sym e) s.not_none in
      let p : production x k ≡ get_or bases (x - 73) 0 + suc w.m = omega (arith, s.is, w.is) in
      let r : nth (prods (nonterminal x)) w.m [] ≡ map symbol (right (production x k)) = is_right w.m w.inside ∙ ap (λ (q : ℕ). map symbol (right q)) (sym p) in
      (w.m, w.inside, p, w.picked ∙ ap some r, rw r at w.passes, r)

  -- THE MOVES. At a kind:
  pub refuses : (k : ℕ) → 1 ≤ k → k < 74 → production x k ≡ 0 → choose G U (nonterminal x) k ≡ none
  refuses zero l hk e = absurd (not-suc-le-zero l)
  refuses (suc i) l hk e = which-none (by_kind (nonterminal x) (suc i)) (prods (nonterminal x)) 0 (nothing (suc i) hk e)

  pub uses : (k : ℕ) → 1 ≤ k → k < 74 → (production x k ≡ 0 → ⊥) → choose G U (nonterminal x) k ≡ some (map symbol (right (production x k)))
  uses zero l hk ne = absurd (not-suc-le-zero l)
  uses (suc i) l hk ne = (found (by_kind (nonterminal x) (suc i)) (suc i) hk ne refl).3

  -- at what is no kind:
  pub no_kind_table : production x 73 ≡ 0
  unfolding no_kind
  no_kind_table =
      is_numbered 73 (omega arith)
      ∙ ap (λ (c : ℕ). numbered c (get_or bases (x - 73) 0)) (none-twice (which (by_kind (nonterminal x) 0) 1 (prods (nonterminal x))) (which (by_kind (nonterminal x) 73) 1 (prods (nonterminal x))) (no_kind_all (x - 73) (omega arith))).1

  pub no_kind_guide : choose G U (nonterminal x) 0 ≡ none
  unfolding no_kind
  no_kind_guide = which-none (by_kind (nonterminal x) 0) (prods (nonterminal x)) 0
      (none-twice (which (by_kind (nonterminal x) 0) 1 (prods (nonterminal x))) (which (by_kind (nonterminal x) 73) 1 (prods (nonterminal x))) (no_kind_all (x - 73) (omega arith))).0

  -- at the end:
  pub not-empty : production x 0 ≡ 0 → U.nul (nonterminal x) ≡ none
  unfolding no_end unless
  not-empty e = go (U.nul (nonterminal x)) (rw (nothing 0 (omega arith) e) at (no_end_all (x - 73) (omega arith)))
    where
      go : (o : Option (List Item)) → T (unless (ltb 0 0) (is_some o)) → o ≡ none
      go none t = refl
      go (some a) t = absurd t

  pub empty : (production x 0 ≡ 0 → ⊥) → finish G U (map symbol (right (production x 0))) ≡ U.nul (nonterminal x)
  empty ne =
      let w = found by_end 0 (omega arith) ne refl in
      fits_eq _ _ (good.nul_ok (nonterminal x) _ (subst (λ (r : Right). In r (prods (nonterminal x))) w.5 (nth_in (prods (nonterminal x)) w.0 [] w.1))) w.4

  -- the right side that the table has for the end is the first that may be empty
  pub uses_at_end : (production x 0 ≡ 0 → ⊥) → pick (λ r. is_some (finish G U r)) (prods (nonterminal x)) ≡ some (map symbol (right (production x 0)))
  uses_at_end ne = (found by_end 0 (omega arith) ne refl).3

-- ---- a test of each production, by the number of its nonterminal and its own
abbrev pub each_right : (ℕ → ℕ → Bool) → Bool
each_right f = below 74 (λ j. below (length (prods (nth nonterminals j e1))) (λ m. f (73 + j) (get_or bases j 0 + suc m)))

pub at_right : (f : ℕ → ℕ → Bool) → T (each_right f) → (x k : ℕ) → 73 ≤ x → x < c_or_else → k < 74 → (production x k ≡ 0 → ⊥) → T (f x (production x k))
at_right f t x k lo hi hk ne =
    let (m, h, p) = numbers k hk ne in
    let e : 73 + (x - 73) ≡ x = omega arith in
    let u : T (f (73 + (x - 73)) (get_or bases (x - 73) 0 + suc m)) =
    below_out (length (prods (nonterminal x))) (λ i. f (73 + (x - 73)) (get_or bases (x - 73) 0 + suc i)) (below_out 74 (λ j. below (length (prods (nth nonterminals j e1))) (λ i. f (73 + j) (get_or bases j 0 + suc i))) t (x - 73) (omega arith)) m h in
    rw (e, ← p) at u
  where
    numbers : (k : ℕ) → k < 74 → (production x k ≡ 0 → ⊥) → (m : ℕ) × (m < length (prods (nonterminal x))) × (production x k ≡ get_or bases (x - 73) 0 + suc m)
    numbers zero hk ne = let w = found x lo hi by_end 0 hk ne refl in (w.0, w.1, w.2)
    numbers (suc i) hk ne = let w = found x lo hi (by_kind (nonterminal x) (suc i)) (suc i) hk ne refl in (w.0, w.1, w.2)
