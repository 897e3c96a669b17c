-- A text as tokens with gaps between them: document 01, "The edition we read", Bytes. No two tokens overlap, and every byte that is of no token is of a gap.
use Rattle.std.specs.Prelude.{◌≡◌, true, List, [], ◌∷◌, ◌++◌, ℕ, ◌+◌, length}
use Rattle.spec_text.specs.Bytes.{is_blank, slash, star}
use Rattle.spec_text.specs.Placed.{Placed, placed}
use Rattle.spec_text.specs.Spelled.{Spelled, Longest}

-- no `*/` in it
abbrev pub Unended : List ℕ → Type 0
Unended c = (x y : List ℕ) → c ≡ x ++ star ∷ slash ∷ y → ⊥

-- "blanks are space, tab, CR, LF. Comments run from `/*` to the next `*/` and hold any bytes": the next one ends it
pub data Gap : List ℕ → Type 0 where
  none : Gap []
  blank : {b : ℕ} {g : List ℕ} → is_blank b ≡ true → Gap g → Gap (b ∷ g)
  comment : (c : List ℕ) {g : List ℕ} → Unended (c ++ star ∷ []) → Gap g → Gap (slash ∷ star ∷ c ++ star ∷ slash ∷ g)

-- the text from place i on
pub data Laid : ℕ → List ℕ → List Placed → Type 0 where
  ends : {i : ℕ} {g : List ℕ} → Gap g → Laid i g []
  token : {i k : ℕ} {g x s : List ℕ} {ps : List Placed} → Gap g → Spelled k x → Longest x s → Laid (i + length g + length x) s ps →
      Laid i (g ++ (x ++ s)) (placed k (i + length g) (length x) ∷ ps)
