-- Bridge, for `read_legal`, `legal_read` (crate `legal_texts`).
-- What the codes of a model's items and what their tokens say are, in terms of its tree: `cs` are the codes, `vs` what the tokens say (specs/Payload.antt of `rule_sheets`).
use Rattle.std.specs.Prelude.{ℕ, ◌≤◌, ◌<◌, ◌≡◌, List, map, length, get_or, eqb}
use Rattle.base_ceilings.specs.Ceilings.{items_most}
use Rattle.base_bytes.specs.Lists.{same}
use Rattle.spec_text.specs.Formats.{format_of}
use Rattle.spec_text.specs.Names.{pid}
use Rattle.spec_grammar.specs.Tree.{Name, Model}
use Rattle.base_codes.specs.Items.{Item, code_of, i_name, i_number, i_plain, i_text}
use Rattle.parse_code.specs.Code.{code}
use Rattle.table_entries.specs.Items.{AllKnown}

-- item j of a list
abbrev pub item_at : List Item → ℕ → Item
item_at l j = get_or l j i_plain

pub record Says (m : Model) (cs vs : List ℕ) : Type 0 where
  pub known : AllKnown (code m)
  pub codes : cs ≡ map code_of (code m)
  pub few : length cs ≤ items_most
  -- names: 0 for `_pid` alone, and two say the same exactly where they are the same
  pub pids : (j : ℕ) (w : Name) → j < length cs → item_at (code m) j ≡ i_name w → eqb (get_or vs j 0) 0 ≡ same w pid
  pub names : (j k : ℕ) (v w : Name) → j < length cs → k < length cs → item_at (code m) j ≡ i_name v → item_at (code m) k ≡ i_name w → eqb (get_or vs j 0) (get_or vs k 0) ≡ same v w
  pub numbers : (j n : ℕ) → j < length cs → item_at (code m) j ≡ i_number n → get_or vs j 0 ≡ n
  pub strings : (j : ℕ) (w : List ℕ) → j < length cs → item_at (code m) j ≡ i_text w → get_or vs j 0 ≡ format_of w
