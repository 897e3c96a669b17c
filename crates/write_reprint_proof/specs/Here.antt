-- Mechanism, of proofs alone: stepping stones of `normal_text_lem` (crate `write_reprint_proof`).
-- Items as the writer meets them: their marked codes, what they hold, and that they are items with a number.
use Rattle.std.specs.Prelude.{◌≡◌, Bool, true, ◌⊎◌, List, [], ◌∷◌, ℕ, suc, ◌≤◌, ◌-◌, get_or, eqb, ltb}
use Rattle.base_codes.specs.Codes.{c_number, c_text}
use Rattle.base_bytes.specs.Choice.{pick}
use Rattle.base_kinds.specs.Kinds.{Token, sym, name, number, text}
use Rattle.base_codes.specs.Items.{Item}
use Rattle.table_entries.specs.Entry.{Entry}
use Rattle.table_entries.specs.Items.{entry_of}
use Rattle.table_proof.specs.Marks.{is_mark}
use Rattle.write_texts.specs.Turning.{after, marked}

-- what an entry holds, if it is of a name, a number or a string
abbrev pub holds : Entry → Token
holds e = pick (eqb e.code c_number) (number e.value) (pick (eqb e.code c_text) (text e.bytes) (name e.bytes))

-- a token by its number, where h says what items hold
abbrev pub tok : (ℕ → Token) → ℕ → Token
tok h v = pick (ltb v 70) (sym v) (h (v - 256))

-- a mark with a number, or a name, number or string
abbrev pub Sane : Item → Type 0
Sane x = (is_mark x ≡ true) ⊎ ((entry_of x).code ≤ c_text)

-- whether the last head of arguments has parentheses, after these items
abbrev pub flagged : Bool → List Item → Bool
flagged b [] = b
flagged b (x ∷ l) = flagged (after b (entry_of x).code) l

module _ (h : ℕ → Token) (ms : List ℕ) where
  -- the items stand at place i
  abbrev pub Here : Bool → ℕ → List Item → Type 0
  Here b i [] = Unit {0}
  Here b i (x ∷ l) = (get_or ms i 0 ≡ marked b (entry_of x).code) × ((entry_of x).code ≤ c_text → h i ≡ holds (entry_of x)) × Sane x × Here (after b (entry_of x).code) (suc i) l
