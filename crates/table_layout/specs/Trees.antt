-- Bridge: the tree's side of `text-tables` (crate `read_accepts_proof`), to which the tables of a text are held.
-- The tables of a tree, with links beside it.
use Rattle.std.specs.Prelude.{ℕ, List, map}
use Rattle.spec_grammar.specs.Tree.{Model}
use Rattle.parse_code.specs.Code.{code}
use Rattle.table_entries.specs.Entry.{Entry}
use Rattle.table_entries.specs.Items.{entry_of}
use Rattle.table_layout.specs.Tables.{tables_of}

abbrev pub entries_in : Model → List Entry
entries_in m = map entry_of (code m)

abbrev pub tables_in : Model → List ℕ → List ℕ
tables_in m ls = tables_of (entries_in m) ls
