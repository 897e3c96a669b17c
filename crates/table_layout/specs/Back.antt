-- Mechanism, of proofs alone (`tables_tree`, crate `read_accepts_proof`), but for `upto`, held to the specification by `text-normal` (crate `normal_proof`).
-- Entries as tables can hold them, and all entries read back from tables.
use Rattle.std.specs.Prelude.{ℕ, zero, suc, ◌+◌, ◌≤◌, ◌<◌, ◌≡◌, List, [], ◌∷◌, length, eqb}
use Rattle.base_ceilings.specs.Ceilings.{string_most}
use Rattle.table_layout.specs.Tables.{pool_most}
use Rattle.base_bytes.specs.Choice.{pick}
use Rattle.base_pens.specs.Pack.{Bytes}
use Rattle.table_entries.specs.Entry.{Entry, entry, bytes, joined, runs}
use Rattle.table_layout.specs.Access.{items_of, code_of, number_of, name_length, name_byte}
use Rattle.base_codes.specs.Codes.{c_name, c_number, c_text}

-- an entry as an item has it: bytes belong to names and strings, at most 64, values to numbers
pub record Fair (e : Entry) : Type 0 where
  pub coded : e.code < 256
  pub short : length e.bytes ≤ string_most
  pub low : Bytes e.bytes
  pub bare : (e.code ≡ c_name → ⊥) → (e.code ≡ c_text → ⊥) → e.bytes ≡ []
  pub still : (e.code ≡ c_number → ⊥) → e.value ≡ 0

abbrev pub AllFair : List Entry → Type 0
AllFair [] = Unit {0}
AllFair (e ∷ es) = Fair e × AllFair es

-- all their bytes have an offset
abbrev pub Small : List Entry → Type 0
Small es = length (joined bytes es) ≤ pool_most

-- what f gives at i, i + 1, .., n of them
unfoldable pub upto : (ℕ → ℕ) → ℕ → ℕ → List ℕ
upto f i zero = []
upto f i (suc n) = f i ∷ upto f (i + 1) n

module _ (t : List ℕ) where
  unfoldable pub bytes_back : ℕ → List ℕ
  bytes_back i = pick (eqb (code_of t i) c_name) (upto (name_byte t i) 0 (name_length t i)) (pick (eqb (code_of t i) c_text) (upto (name_byte t i) 0 (name_length t i)) [])

  unfoldable pub value_back : ℕ → ℕ
  value_back i = pick (eqb (code_of t i) c_number) (number_of t i) 0

  unfoldable pub entry_back : ℕ → Entry
  entry_back i = entry (code_of t i) (bytes_back i) (value_back i)

  unfoldable pub entries_back : List Entry
  entries_back = runs entry_back 0 (items_of t)
