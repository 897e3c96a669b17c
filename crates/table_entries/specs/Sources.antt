-- Mechanism, held to the specification by `tree_tables`, `tables_tree` (crate `read_accepts_proof`).
-- The entries that a text's items have, from the arrays that hold them: first and last place of each token, code and token of each item.
-- Arrays are read as 0 past their ends, a token that reaches past the text ends with it, a spelling has at most 64 bytes (document 01, "Ceilings": word 32, string 64),
-- a number is at most one more than its ceiling, and items past 8,192 are left out: none of this happens in a text that is accepted.
use Rattle.std.specs.Prelude.{ℕ, ◌+◌, ◌-◌, min, List, [], length, get_or, eqb}
use Rattle.base_ceilings.specs.Ceilings.{items_most, number_most, string_most}
use Rattle.base_bytes.specs.Choice.{pick}
use Rattle.spec_text.specs.Digits.{decimal}
use Rattle.table_entries.specs.Entry.{Entry, entry, runs}
use Rattle.base_codes.specs.Codes.{c_name, c_number, c_text}
use Rattle.base_bytes.specs.Lists.{piece}

-- at most 64 of them
abbrev pub clipped : List ℕ → ℕ → ℕ → List ℕ
clipped text from to = piece text from (min to (from + string_most))

-- the bytes of an item with this code whose token reaches from a place to a place
unfoldable pub bytes_of : List ℕ → ℕ → ℕ → ℕ → List ℕ
bytes_of text c from to = pick (eqb c c_name) (clipped text from to) (pick (eqb c c_text) (clipped text (from + 1) (to - 1)) [])

-- its value
unfoldable pub value_of : List ℕ → ℕ → ℕ → ℕ → ℕ
value_of text c from to = pick (eqb c c_number) (min (number_most + 1) (decimal (piece text from to))) 0

module _ (text starts ends codes toks : List ℕ) where
  unfoldable pub entry_at : ℕ → Entry
  entry_at i =
      entry (get_or codes i 0) (bytes_of text (get_or codes i 0) (get_or starts (get_or toks i 0) 0) (get_or ends (get_or toks i 0) 0))
      (value_of text (get_or codes i 0) (get_or starts (get_or toks i 0) 0) (get_or ends (get_or toks i 0) 0))

  unfoldable pub entries_of : List Entry
  entries_of = runs entry_at 0 (min items_most (length codes))
