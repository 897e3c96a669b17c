-- Items that stand in a model's items at a place, with what they say and the body that they are in, and sums over them.
use Prim.Native.Nat.{ℕ, suc, ◌+◌, ◌≤◌, ◌<◌}
use native.Mathlib.Omega.{arith}
use mathlib.Core.Path.{◌≡◌, refl, sym, ap, ◌∙◌, subst}
use mathlib.Core.Bool.{true, false}
use mathlib.Core.List.{List, [], ◌∷◌, ◌++◌}
use lib.ListN.{length, get_or, length-map}
use borrow.Author.Tests.{ne_eqb}
use Rattle.base_codes.specs.Codes.{c_end_body}
use Rattle.spec_grammar.specs.Tree.{Model}
use Rattle.base_codes.specs.Items.{Item, code_of, i_end_body, i_number, i_plain}
use Rattle.base_codes.specs.Sets.{is_unit}
use Rattle.parse_code.specs.Code.{code}
use Rattle.table_entries.specs.Items.{Known, AllKnown}
use Rattle.table_proof.proofs.Read.{get_only}
use Rattle.rule_sheets.specs.Walks.{sum}
use Rattle.rule_sheets.specs.Homes.{inside_of, home_of}
use Rattle.legal_terms.specs.Says.{item_at, Says}
use Rattle.agree_eval.proofs.Ranges.{Every}

-- ---- sums over the items of a list that stands at a place
abbrev pub weigh : (ℕ → ℕ) → ℕ → List Item → ℕ
weigh f i [] = 0
weigh f i (x ∷ l) = f i + weigh f (suc i) l

pub weigh-append : (f : ℕ → ℕ) (x y : List Item) (i j : ℕ) → j ≡ i + length x → weigh f i (x ++ y) ≡ weigh f i x + weigh f j y
weigh-append f [] y i j e = let r : weigh f i y ≡ weigh f j y = ap (λ n. weigh f n y) (let z : i ≡ j = omega arith in z) in omega arith
weigh-append f (a ∷ x) y i j e = let r = weigh-append f x y (suc i) j (omega arith) in ap (λ n. f i + n) r ∙ turned (f i) (weigh f (suc i) x) (weigh f j y)
  where
    turned : (a b c : ℕ) → a + (b + c) ≡ a + b + c
    turned a b c = omega arith

pub sum-weigh : (f : ℕ → ℕ) (l : List Item) (i : ℕ) → sum f i (length l) ≡ weigh f i l
unfolding sum
sum-weigh f [] i = refl
sum-weigh f (x ∷ l) i = ap (λ n. f i + n) (ap (λ k. sum f k (length l)) (let z : i + 1 ≡ suc i = omega arith in z) ∙ sum-weigh f l (suc i))

module _ (cs vs : List ℕ) where
  -- the items l stand from item i on, and their numbers are said
  abbrev pub Lain : ℕ → List Item → Type 0
  Lain i [] = Unit {0}
  Lain i (x ∷ l) = (i < length cs) × Known x × (get_or cs i 0 ≡ code_of x) × ((n : ℕ) → x ≡ i_number n → get_or vs i 0 ≡ n) × Lain (suc i) l

  pub lain_front : (i : ℕ) (x y : List Item) → Lain i (x ++ y) → Lain i x
  lain_front i [] y h = tt
  lain_front i (a ∷ x) y h = (h.0, h.1, h.2, h.3, lain_front (suc i) x y h.4)

  pub lain_back : (x y : List Item) (i j : ℕ) → j ≡ i + length x → Lain i (x ++ y) → Lain j y
  lain_back [] y i j e h = subst (λ n. Lain n y) (let z : i ≡ j = omega arith in z) h
  lain_back (a ∷ x) y i j e h = lain_back x y (suc i) j (omega arith) h.4

  module _ (m : Model) (S : Says m cs vs) where
    long : length cs ≡ length (code m)
    long = ap length S.codes ∙ length-map (code m) code_of

    lain : (l : List Item) (i : ℕ) → ((j : ℕ) → j < length l → item_at (code m) (i + j) ≡ get_or l j i_plain) → i + length l ≤ length (code m) → AllKnown l → Lain i l
    lain [] i h k a = tt
    lain (x ∷ l) i h k a =
        let e : item_at (code m) i ≡ x = ap (item_at (code m)) (let z : i ≡ i + 0 = omega arith in z) ∙ h 0 (omega arith) in
        let g : i < length cs = omega (arith, long) in (
          g,
          a.0,
          ap (λ (y : List ℕ). get_or y i 0) S.codes ∙ get_only code_of (code m) i i_plain 0 (omega arith) ∙ ap code_of e,
          λ n q. S.numbers i n g (e ∙ q),
          lain l (suc i) (λ j b. ap (item_at (code m)) (let z : suc i + j ≡ i + suc j = omega arith in z) ∙ h (suc j) (omega arith)) (omega arith) a.1,
        )

    pub model_lain : Lain 0 (code m)
    model_lain = lain (code m) 0 (λ j h. ap (item_at (code m)) (let z : 0 + j ≡ j = omega arith in z)) (omega arith) S.known

-- ---- and the body that they are in
module _ (cs vs hs : List ℕ) where
  abbrev pub Stood : ℕ → ℕ → List Item → Type 0
  Stood h i [] = Unit {0}
  Stood h i (x ∷ l) = Known x × (get_or cs i 0 ≡ code_of x) × ((n : ℕ) → x ≡ i_number n → get_or vs i 0 ≡ n) × (get_or hs i 0 ≡ h) × Stood h (suc i) l

  pub stood_front : (h i : ℕ) (x y : List Item) → Stood h i (x ++ y) → Stood h i x
  stood_front h i [] y s = tt
  stood_front h i (a ∷ x) y s = (s.0, s.1, s.2, s.3, stood_front h (suc i) x y s.4)

  pub stood_back : (h : ℕ) (x y : List Item) (i j : ℕ) → j ≡ i + length x → Stood h i (x ++ y) → Stood h j y
  stood_back h [] y i j e s = subst (λ n. Stood h n y) (let z : i ≡ j = omega arith in z) s
  stood_back h (a ∷ x) y i j e s = stood_back h x y (suc i) j (omega arith) s.4

  -- a sum of nothings, by codes and by bodies
  pub still : (f : ℕ → ℕ) (P : ℕ → Type 0) (l : List Item) (h i : ℕ) → Every P l → Stood h i l → ((j : ℕ) → P (get_or cs j 0) → f j ≡ 0) → weigh f i l ≡ 0
  still f P [] h i e s z = refl
  still f P (x ∷ l) h i e s z = let a = z i (subst P (sym s.1) (e.0 s.0)) in let b = still f P l h (suc i) e.1 s.4 z in omega arith

  pub away : (f : ℕ → ℕ) (l : List Item) (h i : ℕ) → Stood h i l → ((j : ℕ) → get_or hs j 0 ≡ h → f j ≡ 0) → weigh f i l ≡ 0
  away f [] h i s z = refl
  away f (x ∷ l) h i s z = let a = z i s.3 in let b = away f l h (suc i) s.4 z in omega arith

  -- what neither begins nor ends a body
  abbrev pub Inner : ℕ → Type 0
  Inner c = (is_unit c ≡ false) × (c ≡ c_end_body → ⊥)

  inside-next : (j : ℕ) → Inner (get_or cs j 0) → inside_of cs (suc j) ≡ inside_of cs j
  unfolding inside_of
  inside-next j p = rw (p.0, ne_eqb (get_or cs j 0) c_end_body p.1)

  pub inside-head : (j : ℕ) → is_unit (get_or cs j 0) ≡ true → inside_of cs (suc j) ≡ j + 1
  unfolding inside_of
  inside-head j p = rw p

  inside_end : (j : ℕ) → get_or cs j 0 ≡ c_end_body → inside_of cs (suc j) ≡ 0
  unfolding inside_of
  inside_end j p = rw p

  home_plain : (j : ℕ) → is_unit (get_or cs j 0) ≡ false → home_of cs j ≡ inside_of cs j
  unfolding home_of
  home_plain j p = rw p

  module _ (homed : (j : ℕ) → j < length cs → get_or hs j 0 ≡ home_of cs j) where
    pub settled : (l : List Item) (h i : ℕ) → Every Inner l → Lain cs vs i l → inside_of cs i ≡ h → Stood h i l × (inside_of cs (i + length l) ≡ h)
    settled [] h i e s q = (tt, ap (inside_of cs) (let z : i + 0 ≡ i = omega arith in z) ∙ q)
    settled (x ∷ l) h i e s q =
        let p : Inner (get_or cs i 0) = subst Inner (sym s.2) (e.0 s.1) in
        let r = settled l h (suc i) e.1 s.4 (inside-next i p ∙ q) in
        ((s.1, s.2, s.3, homed i s.0 ∙ home_plain i p.0 ∙ q, r.0), ap (inside_of cs) (let z : i + suc (length l) ≡ suc i + length l = omega arith in z) ∙ r.1)

    pub settled_end : (i h : ℕ) → Lain cs vs i (i_end_body ∷ []) → inside_of cs i ≡ h → Stood h i (i_end_body ∷ []) × (inside_of cs (suc i) ≡ 0)
    settled_end i h s q = ((s.1, s.2, s.3, homed i s.0 ∙ home_plain i (rw s.2) ∙ q, tt), inside_end i s.2)
