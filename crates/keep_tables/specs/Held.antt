-- Bridge, for `demand2` (crate `demands`).
-- What the tables of an accepted text hold, in terms of its items: `cs` are the items' codes, `vs` what their tokens say, `ls` their links (docs/TABLES.md).
use Rattle.std.specs.Prelude.{ℕ, ◌≤◌, ◌<◌, ◌≡◌, List, length, get_or}
use Rattle.base_ceilings.specs.Ceilings.{items_most}
use Rattle.table_layout.specs.Access.{items_of, code_of, link_of, number_of}
use Rattle.base_codes.specs.Codes.{c_number}

pub record Held (t cs vs ls : List ℕ) : Type 0 where
  pub few : length cs ≤ items_most
  pub items : items_of t ≡ length cs
  pub codes : (i : ℕ) → i < length cs → code_of t i ≡ get_or cs i 0
  pub links : (i : ℕ) → i < length cs → link_of t i ≡ get_or ls i 0
  pub numbers : (i : ℕ) → i < length cs → get_or cs i 0 ≡ c_number → number_of t i ≡ get_or vs i 0
