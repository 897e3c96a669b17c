-- Below a statement's place the writer's walk writes nothing: the codes are blank there, and the stack holds no token.
use Prim.Native.Nat.{ℕ, zero, suc, ◌+◌, ◌≤◌, ◌<◌}
use native.Mathlib.Omega.{arith}
use mathlib.Core.Path.{◌≡◌, refl, sym as inv, ◌∙◌, ap}
use mathlib.Core.Bool.{Bool, true, false}
use mathlib.Core.List.{List, [], ◌∷◌}
use lib.ListN.{length, get_or, drop}
use Rattle.base_bytes.specs.Choice.{pick}
use Rattle.base_bytes.proofs.Tests.{true_false}
use Rattle.base_kinds.specs.Kinds.{Token}
use Rattle.base_codes.specs.Items.{Item}
use Rattle.table_entries.specs.Items.{entry_of}
use Rattle.write_texts.specs.Turning.{is_token, kept, told, walk, after, marks, blanked}
use Rattle.write_texts.proofs.Rows.{blank-row}
use Rattle.write_reprint_proof.specs.Here.{tok, Here}
use Rattle.write_reprint_proof.proofs.Walk.{W}

-- ---- codes that are blank before a place
pub blanked-length : (k : ℕ) (cs : List ℕ) → length (blanked k cs) ≡ length cs
unfolding blanked
blanked-length zero cs = refl
blanked-length (suc k) [] = refl
blanked-length (suc k) (c ∷ cs) = ap suc (blanked-length k cs)

-- the codes bs are those of ms from place j on, and blank before it
pub record Blank (ms bs : List ℕ) (j : ℕ) : Type 0 where
  pub above : (i : ℕ) → j ≤ i → get_or bs i 0 ≡ get_or ms i 0
  pub below : (i : ℕ) → i < j → get_or bs i 0 ≡ 0

over : (k : ℕ) (cs : List ℕ) (i : ℕ) → k ≤ i → get_or (blanked k cs) i 0 ≡ get_or cs i 0
unfolding blanked
over zero cs i h = refl
over (suc k) [] i h = refl
over (suc k) (c ∷ cs) zero h = absurd (omega arith)
over (suc k) (c ∷ cs) (suc i) h = over k cs i (omega arith)

under : (k : ℕ) (cs : List ℕ) (i : ℕ) → i < k → get_or (blanked k cs) i 0 ≡ 0
unfolding blanked
under zero cs i h = absurd (omega arith)
under (suc k) [] i h = refl
under (suc k) (c ∷ cs) zero h = refl
under (suc k) (c ∷ cs) (suc i) h = under k cs i (omega arith)

pub blanked_is : (k : ℕ) (cs : List ℕ) → Blank cs (blanked k cs) k
blanked_is k cs = record { above = over k cs; below = under k cs }

-- ---- a stack that holds no token
abbrev pub silent : List ℕ → Bool
silent [] = true
silent (v ∷ st) = pick (is_token v) false (silent st)

first-silent : (v : ℕ) (st : List ℕ) → silent (v ∷ st) ≡ true → (is_token v ≡ false) × (silent st ≡ true)
first-silent v st e = go (is_token v) e
  where
    go : (b : Bool) → pick b false (silent st) ≡ true → (b ≡ false) × (silent st ≡ true)
    go true e = absurd (true_false (inv e))
    go false e = (refl, e)

silent-kept : (st : List ℕ) → silent st ≡ true → kept st ≡ st
unfolding kept
silent-kept [] e = refl
silent-kept (v ∷ st) e = rw (first-silent v st e).0 refl

silent-told : {A : Type 0} (f : ℕ → A) (st : List ℕ) (out : List A) → silent st ≡ true → told f st out ≡ out
unfolding told
silent-told f [] out e = refl
silent-told f (v ∷ st) out e = rw (first-silent v st e).0 refl

silent-drop : (st : List ℕ) → silent st ≡ true → silent (drop 1 st) ≡ true
silent-drop [] e = refl
silent-drop (v ∷ st) e = (first-silent v st e).1

module _ (h : ℕ → Token) (ms bs : List ℕ) (j : ℕ) (b : Blank ms bs j) where
  pub blank-walk : (i : ℕ) (st : List ℕ) (out : List Token) → i ≤ j → silent st ≡ true → W h bs i st out ≡ out
  unfolding walk
  blank-walk zero st out l e = silent-told (tok h) st out e
  blank-walk (suc i) st out l e =
      rw (silent-kept st e, silent-told (tok h) st out e, b.below i (omega arith), blank-row (get_or st 0 0) i (drop 1 st)) (blank-walk i (drop 1 st) out (omega arith) (silent-drop st e))

-- ---- items that stand in codes stand in others that are alike there
module _ (h : ℕ → Token) (ms bs : List ℕ) where
  pub here-alike : (lo hi : ℕ) → ((i : ℕ) → lo ≤ i → i < hi → get_or bs i 0 ≡ get_or ms i 0) → (l : List Item) (f : Bool) (i : ℕ) → lo ≤ i → i + length l ≤ hi → Here h ms f i l → Here h bs f i l
  here-alike lo hi e [] f i a b p = tt
  here-alike lo hi e (x ∷ l) f i a b p = (e i a (omega arith) ∙ p.0, p.1, p.2, here-alike lo hi e l (after f (entry_of x).code) (suc i) (omega arith) (omega arith) p.3)

-- the first codes of more
pub marks-alike : (f : Bool) (g : ℕ → ℕ) (i n m k : ℕ) → k < n → k < m → get_or (marks f g i n) k 0 ≡ get_or (marks f g i m) k 0
unfolding marks
marks-alike f g i zero m k a b = absurd (omega arith)
marks-alike f g i (suc n) zero k a b = absurd (omega arith)
marks-alike f g i (suc n) (suc m) zero a b = refl
marks-alike f g i (suc n) (suc m) (suc k) a b = marks-alike (after f (g i)) g (i + 1) n m k (omega arith) (omega arith)
