-- Items of a scene's statements: parts of them, their codes, that they are known ones, and their faults.
use Prim.Native.Nat.{ℕ, zero, suc, ◌+◌, ◌-◌, ◌<◌}
use native.Mathlib.Omega.{arith}
use mathlib.Core.Path.{◌≡◌, refl, sym, ap, ap₂, subst, ◌∙◌}
use mathlib.Core.Bool.{true, false}
use mathlib.Core.List.{List, [], ◌∷◌, ◌++◌, map, append_assoc, append-nil}
use lib.ListN.{length, get_or, length-map, length-append}
use lib.Dec.{ltb}
use Rattle.rule_item.specs.Rules.{bad_by}
use Rattle.rule_least.specs.Faults.{place_by}
use Rattle.link_phrases_proof.specs.Phrases.{At, Proper}
use Rattle.spec_grammar.specs.Tree.{Shape, Exp}
use Rattle.base_codes.specs.Items.{Item, code_of, i_plain}
use Rattle.base_codes.specs.Sets.{rule_of}
use Rattle.parse_code.specs.Code.{code_exp}
use Rattle.parse_spots.specs.Spots.{Spot, items}
use Rattle.table_entries.specs.Items.{Known, AllKnown}
use Rattle.agree_eval.proofs.Operators.{known_proper}
use Rattle.spec_faults.specs.Faults.{Faults, fault_at}
use Rattle.legal_terms.specs.Says.{item_at}
use Rattle.legal_terms.specs.Faulted.{fault_of}
use Rattle.legal_statements.specs.Scene.{Scene, xs, homes, starts, heights, fault, faults, IsItem, IsSpot, Each, In, StandsIn, SpotsIn}

known_at : (l : List Item) (i : ℕ) → AllKnown l → i < length l → Known (get_or l i i_plain)
known_at [] i k h = absurd (omega arith)
known_at (x ∷ l) zero k h = k.0
known_at (x ∷ l) (suc i) k h = known_at l i k.1 (omega arith)

mapped_at : (l : List Item) (i : ℕ) → i < length l → get_or (map code_of l) i 0 ≡ code_of (get_or l i i_plain)
mapped_at [] i h = absurd (omega arith)
mapped_at (x ∷ l) zero h = refl
mapped_at (x ∷ l) (suc i) h = mapped_at l i (omega arith)

module _ (S : Scene) where
  module _ {A : Type 0} (P : ℕ → A → Type 0) where
    each-front : (x y : List A) (i : ℕ) → Each S P i (x ++ y) → Each S P i x
    each-front [] y i p = tt
    each-front (a ∷ x) y i p = (p.0, each-front x y (suc i) p.1)

    each_back : (x y : List A) (i k : ℕ) → k ≡ i + length x → Each S P i (x ++ y) → Each S P k y
    each_back [] y i k e p = subst (λ j. Each S P j y) (let z : i ≡ k = omega arith in z) p
    each_back (a ∷ x) y i k e p = each_back x y (suc i) k (omega arith) p.1

  module _ {A : Type 0} {P : ℕ → A → Type 0} where
    pub front : (x y : List A) (i : ℕ) → In S P i (x ++ y) → In S P i x
    front x y i s = record { items = each-front P x y i s.items; low = s.low; high = omega (arith, s.high, length-append x y) }

    pub back : (x y : List A) (i k : ℕ) → k ≡ i + length x → In S P i (x ++ y) → In S P k y
    back x y i k e s = record { items = each_back P x y i k e s.items; low = omega (arith, s.low); high = omega (arith, s.high, length-append x y) }

    pub next : (x : A) (l : List A) (i : ℕ) → In S P i (x ∷ l) → In S P (suc i) l
    next x l i s = record { items = s.items.1; low = omega (arith, s.low); high = omega (arith, s.high) }

    pub inside : (x : A) (l : List A) (i : ℕ) → In S P i (x ∷ l) → i < S.to
    inside x l i s = omega (arith, s.high)

    pub home : (x : A) (l : List A) (i : ℕ) → In S P i (x ∷ l) → get_or (homes S) i 0 ≡ S.h
    home x l i s = S.setting.home i s.low (inside x l i s)

  -- without their tokens
  each_item : (l : List Spot) (i : ℕ) → Each S (IsSpot S) i l → Each S (IsItem S) i (items l)
  each_item [] i p = tt
  each_item (x ∷ l) i p = (p.0.0, each_item l (suc i) p.1)

  pub erased : (l : List Spot) (i : ℕ) → SpotsIn S i l → StandsIn S i (items l)
  erased l i s = record { items = each_item l i s.items; low = s.low; high = omega (arith, s.high, length-map l (λ (x : Spot). x.0)) }

  as_many : length S.cs ≡ length (xs S)
  as_many = ap length S.says.codes ∙ length-map (xs S) code_of

  code_is : (i : ℕ) (x : Item) → item_at (xs S) i ≡ x → i < length S.cs → get_or S.cs i 0 ≡ code_of x
  code_is i x e h = ap (λ (l : List ℕ). get_or l i 0) S.says.codes ∙ mapped_at (xs S) i (omega (arith, as_many)) ∙ ap code_of e

  -- the code of the first of them
  pub code_at : (x : Item) (l : List Item) (i : ℕ) → StandsIn S i (x ∷ l) → get_or S.cs i 0 ≡ code_of x
  code_at x l i s = code_is i x s.items.0 (omega (arith, s.high, S.within))

  pub code_of_lem : (x : Spot) (l : List Spot) (i : ℕ) → SpotsIn S i (x ∷ l) → get_or S.cs i 0 ≡ code_of x.0
  code_of_lem x l i s = code_is i x.0 s.items.0.0 (omega (arith, s.high, S.within))

  -- all their codes
  pub codes_at : (l : List Item) (i : ℕ) → StandsIn S i l → At S.cs i l
  codes_at [] i s = tt
  codes_at (x ∷ l) i s = (code_at x l i s, codes_at l (suc i) (next x l i s))

  known : (l : List Item) (i : ℕ) → StandsIn S i l → AllKnown l
  known [] i s = tt
  known (x ∷ l) i s =
      (subst Known s.items.0 (known_at (xs S) i S.says.known (omega (arith, s.high, S.within, as_many))), known l (suc i) (next x l i s))

  pub proper : {s : Shape} (e : Exp s) (i : ℕ) → StandsIn S i (code_exp e) → Proper e
  proper e i s = known_proper e (known (code_exp e) i s)

  -- ---- faults
  pub faults-none : (i : ℕ) → faults S i [] ≡ []
  unfolding faults
  faults-none i = refl

  pub faults-first : (x : Spot) (l : List Spot) (i : ℕ) {f g : Faults} → fault S i ≡ f → faults S (suc i) l ≡ g → faults S i (x ∷ l) ≡ f ++ g
  unfolding faults
  faults-first x l i a b = ap₂ ◌++◌ a b

  faults-append : (x y : List Spot) (i k : ℕ) → k ≡ i + length x → faults S i (x ++ y) ≡ faults S i x ++ faults S k y
  unfolding faults
  faults-append [] y i k e = ap (λ j. faults S j y) (let z : i ≡ k = omega arith in z)
  faults-append (a ∷ x) y i k e = ap (fault S i ++◌) (faults-append x y (suc i) k (omega arith)) ∙ sym (append_assoc (fault S i) (faults S (suc i) x) (faults S k y))

  pub faults-both : (x y : List Spot) (i k : ℕ) {f g : Faults} → k ≡ i + length x → faults S i x ≡ f → faults S k y ≡ g → faults S i (x ++ y) ≡ f ++ g
  faults-both x y i k e a b = faults-append x y i k e ∙ ap₂ ◌++◌ a b

  pub faults-one : (x : Spot) (i : ℕ) {f : Faults} → fault S i ≡ f → faults S i (x ∷ []) ≡ f
  faults-one x i {f} a = faults-first x [] i a (faults-none (suc i)) ∙ append-nil f

  pub faults-last : (l : List Spot) (x : Spot) (i k : ℕ) {f g : Faults} → k ≡ i + length l → faults S i l ≡ f → fault S k ≡ g → faults S i (l ++ x ∷ []) ≡ f ++ g
  faults-last l x i k e a b = faults-both l (x ∷ []) i k e a (faults-one x k b)

  -- by the rule of its code
  pub fault_by : (j c r b p : ℕ) → get_or S.cs j 0 ≡ c → rule_of c ≡ r → bad_by S.cs S.vs (homes S) (starts S) (heights S) r j ≡ b
      → place_by S.cs (starts S) S.toks r j ≡ p → fault S j ≡ fault_at b p
  unfolding fault_of
  fault_by j c r b p e f g h =
      let z = ap rule_of e ∙ f in
      ap₂ (λ (n m : ℕ). fault_at n m) (ap (λ n. bad_by S.cs S.vs (homes S) (starts S) (heights S) n j) z ∙ g) (ap (λ n. place_by S.cs (starts S) S.toks n j) z ∙ h)

  -- where a fault stands: at the item's own token, or at that of the item before it
  pub place_own : (r j n : ℕ) → ltb r 7 ≡ true → get_or S.toks j 0 ≡ n → place_by S.cs (starts S) S.toks r j ≡ n
  unfolding place_by
  place_own r j n e t = rw e t

  pub place-before : (r i n : ℕ) → ltb r 7 ≡ false → ltb r 15 ≡ true → get_or S.toks i 0 ≡ n → place_by S.cs (starts S) S.toks r (suc i) ≡ n
  unfolding place_by
  place-before r i n e f t = let z : suc i - 1 ≡ i = omega arith in rw (e, f, z) t

  -- items with no rule have none
  fault_free : (x : Spot) (l : List Spot) (i : ℕ) → SpotsIn S i (x ∷ l) → rule_of (code_of x.0) ≡ 0 → fault S i ≡ []
  unfolding bad_by
  fault_free x l i s r = fault_by i (code_of x.0) 0 0 (place_by S.cs (starts S) S.toks 0 i) (code_of_lem x l i s) r refl refl

  pub free_first : (x : Spot) (l : List Spot) (i : ℕ) → SpotsIn S i (x ∷ l) → rule_of (code_of x.0) ≡ 0 → faults S i (x ∷ l) ≡ faults S (suc i) l
  free_first x l i s r = faults-first x l i (fault_free x l i s r) refl

  pub free_one : (x : Spot) (i : ℕ) → SpotsIn S i (x ∷ []) → rule_of (code_of x.0) ≡ 0 → faults S i (x ∷ []) ≡ []
  free_one x i s r = free_first x [] i s r ∙ faults-none (suc i)

  pub free_last : (l : List Spot) (x : Spot) (i k : ℕ) {f : Faults} → k ≡ i + length l → SpotsIn S i (l ++ x ∷ []) → rule_of (code_of x.0) ≡ 0 → faults S i l ≡ f → faults S i (l ++ x ∷ []) ≡ f
  free_last l x i k {f} e s r a = faults-last l x i k e a (fault_free x [] k (back l (x ∷ []) i k e s) r) ∙ append-nil f
