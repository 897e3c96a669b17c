-- Items that stand at places of a model's code, and their codes; and items with their tokens (`Span`).
use Prim.Native.Nat.{ℕ, zero, suc, ◌+◌, ◌≤◌, ◌<◌}
use native.Mathlib.Omega.{arith}
use native.Mathlib.Decide.{ℕ_discrete}
use mathlib.Core.Path.{◌≡◌, refl, sym, ap, ◌∙◌, subst}
use mathlib.Core.Bool.{Bool, true}
use mathlib.Core.List.{List, [], ◌∷◌, ◌++◌, map, append_assoc}
use lib.ListN.{length, get_or, length-append, length-map}
use lib.Seq.{get_or-append-add}
use Rattle.base_codes.specs.Codes.{c_end_option, c_field}
use Rattle.spec_grammar.specs.Tree.{Model}
use Rattle.base_codes.specs.Items.{Item, code_of, i_plain}
use Rattle.parse_code.specs.Code.{code}
use Rattle.table_entries.specs.Items.{Known, AllKnown}
use Rattle.parse_spots.specs.Spots.{Spot, items}
use Rattle.legal_terms.specs.Says.{item_at, Says}
use Rattle.legal_terms.specs.Faulted.{Stand}
use Rattle.legal_declarations.proofs.Items.{spoken, valued, settled, declaring, Low, Calm, spoken-code, valued-code, settled-code, declaring-code, settled-declaring, All}

-- the items l stand in the items xs from item k on
abbrev pub Lies : List Item → ℕ → List Item → Type 0
Lies xs k [] = Unit {0}
Lies xs k (x ∷ l) = (k < length xs) × (item_at xs k ≡ x) × Lies xs (suc k) l

module _ (xs : List Item) where
  pub lies_front : (k : ℕ) (x y : List Item) → Lies xs k (x ++ y) → Lies xs k x
  lies_front k [] y h = tt
  lies_front k (a ∷ x) y h = (h.0, h.1, lies_front (suc k) x y h.2)

  pub lies_back : (x y : List Item) (k j : ℕ) → j ≡ k + length x → Lies xs k (x ++ y) → Lies xs j y
  lies_back [] y k j e h = let q : k ≡ j = omega arith in subst (λ n. Lies xs n y) q h
  lies_back (a ∷ x) y k j e h = lies_back x y (suc k) j (omega arith) h.2

  -- what all of them are
  pub lies_all : (p : Item → Bool) (l : List Item) (k : ℕ) → Lies xs k l → All p l → (j : ℕ) → k ≤ j → j < k + length l → p (item_at xs j) ≡ true
  lies_all p [] k h a j b c = absurd (omega arith)
  lies_all p (x ∷ l) k h a j b c = go (ℕ_discrete j k) (lies_all p l (suc k) h.2 a.1 j)
    where
      go : Dec (j ≡ k) → (suc k ≤ j → j < suc k + length l → p (item_at xs j) ≡ true) → p (item_at xs j) ≡ true
      go (yes z) r = ap (λ n. p (item_at xs n)) z ∙ ap p h.1 ∙ a.0
      go (no z) r = r (omega arith) (omega arith)

pub lies_whole : (f l : List Item) → Lies (f ++ l) (length f) l
lies_whole f [] = tt
lies_whole f (x ∷ l) = (
  let a = length-append f (x ∷ l) in omega arith,
  ap (λ n. item_at (f ++ x ∷ l) n) (let z : length f ≡ length f + 0 = omega arith in z) ∙ get_or-append-add f (x ∷ l) 0 i_plain,
  subst (λ n. Lies (f ++ x ∷ l) n l) (let a = length-append f (x ∷ []) in let z : length (f ++ x ∷ []) ≡ suc (length f) = omega arith in z)
      (subst (λ (y : List Item). Lies y (length (f ++ x ∷ [])) l) (append_assoc f (x ∷ []) l) (lies_whole (f ++ x ∷ []) l)),
)

all_known : (l : List Item) → AllKnown l → (j : ℕ) → j < length l → Known (item_at l j)
all_known [] a j h = absurd (omega arith)
all_known (x ∷ l) a zero h = a.0
all_known (x ∷ l) a (suc j) h = all_known l a.1 j (omega arith)

map_at : (l : List Item) (j : ℕ) → j < length l → get_or (map code_of l) j 0 ≡ code_of (item_at l j)
map_at [] j h = absurd (omega arith)
map_at (x ∷ l) zero h = refl
map_at (x ∷ l) (suc j) h = map_at l j (omega arith)

module _ (m : Model) (cs vs : List ℕ) (S : Says m cs vs) where
  pub long : length cs ≡ length (code m)
  long = ap length S.codes ∙ length-map (code m) code_of

  pub known_at : (j : ℕ) → j < length (code m) → Known (item_at (code m) j)
  known_at j h = all_known (code m) S.known j h

  pub code_at : (j : ℕ) → j < length (code m) → get_or cs j 0 ≡ code_of (item_at (code m) j)
  code_at j h = ap (λ l. get_or l j 0) S.codes ∙ map_at (code m) j h

  pub code_is : (j : ℕ) (x : Item) → j < length (code m) → item_at (code m) j ≡ x → get_or cs j 0 ≡ code_of x
  code_is j x h e = code_at j h ∙ ap code_of e

  pub spoken_at : (j : ℕ) → j < length (code m) → spoken (item_at (code m) j) ≡ true → get_or cs j 0 ≤ c_end_option
  spoken_at j h e = let a = spoken-code (item_at (code m) j) (known_at j h) e in let b = code_at j h in omega arith

  pub valued_at : (j : ℕ) → j < length (code m) → valued (item_at (code m) j) ≡ true → Low (get_or cs j 0)
  valued_at j h e = subst Low (sym (code_at j h)) (valued-code (item_at (code m) j) (known_at j h) e)

  pub declaring_at : (j : ℕ) → j < length (code m) → declaring (item_at (code m) j) ≡ true → Calm (get_or cs j 0)
  declaring_at j h e = subst Calm (sym (code_at j h)) (declaring-code (item_at (code m) j) (known_at j h) e)

  pub settled_at : (j : ℕ) → j < length (code m) → settled (item_at (code m) j) ≡ true → (get_or cs j 0 ≤ c_field) × Calm (get_or cs j 0)
  settled_at j h e =
      (let a = settled-code (item_at (code m) j) (known_at j h) e in let b = code_at j h in omega arith, declaring_at j h (settled-declaring (item_at (code m) j) e))

-- ---- items with their tokens, from item k to before item e
pub record Span (xs : List Item) (toks : List ℕ) (k e : ℕ) (s : List Spot) : Type 0 where
  pub ends : e ≡ k + length s
  pub room : e ≤ length xs
  pub stand : Stand xs toks k s

pub items_long : (s : List Spot) (l : List Item) → items s ≡ l → length s ≡ length l
items_long s l e = sym (length-map s (λ (x : Spot). x.0)) ∙ ap length e

module _ (xs : List Item) (toks : List ℕ) where
  stand_front : (x y : List Spot) (k : ℕ) → Stand xs toks k (x ++ y) → Stand xs toks k x
  stand_front [] y k h = tt
  stand_front (a ∷ x) y k h = (h.0, h.1, stand_front x y (suc k) h.2)

  stand_back : (x y : List Spot) (k j : ℕ) → j ≡ k + length x → Stand xs toks k (x ++ y) → Stand xs toks j y
  stand_back [] y k j e h = subst (λ n. Stand xs toks n y) (let z : k ≡ j = omega arith in z) h
  stand_back (a ∷ x) y k j e h = stand_back x y (suc k) j (omega arith) h.2

module _ {xs : List Item} {toks : List ℕ} where
  pub span-front : {k e : ℕ} (x y : List Spot) → Span xs toks k e (x ++ y) → Span xs toks k (k + length x) x
  span-front {k} x y h = record { ends = refl; room = omega (arith, h.ends, h.room, length-append x y); stand = stand_front xs toks x y k h.stand }

  pub span-back : {k e : ℕ} (x y : List Spot) → Span xs toks k e (x ++ y) → Span xs toks (k + length x) e y
  span-back {k} x y h = record { ends = omega (arith, h.ends, length-append x y); room = h.room; stand = stand_back xs toks x y k (k + length x) refl h.stand }

  pub span_tail : {k e : ℕ} {x : Spot} {s : List Spot} → Span xs toks k e (x ∷ s) → Span xs toks (suc k) e s
  span_tail h = record { ends = omega (arith, h.ends); room = h.room; stand = h.stand.2 }

  pub span_lies : {k e : ℕ} (s : List Spot) (l : List Item) → Span xs toks k e s → items s ≡ l → Lies xs k l
  span_lies {k} s l h q = subst (Lies xs k) q (go s k (omega arith) h.stand)
    where
      go : (s : List Spot) (k : ℕ) → k + length s ≤ length xs → Stand xs toks k s → Lies xs k (items s)
      go [] k b y = tt
      go (x ∷ s) k b y = (omega arith, y.0, go s (suc k) (omega arith) y.2)

module _ {m : Model} {cs vs toks : List ℕ} (S : Says m cs vs) {k e : ℕ} {x : Item} {n : ℕ} {s : List Spot} (y : Span (code m) toks k e ((x, n) ∷ s)) where
  pub span-room : (k < length (code m)) × (k < length cs)
  span-room = let l = long m cs vs S in (omega arith, omega arith)

  pub span-code : get_or cs k 0 ≡ code_of x
  span-code = code_is m cs vs S k x span-room.0 y.stand.0
