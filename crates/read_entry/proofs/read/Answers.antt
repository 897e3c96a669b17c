use borrow.Author.Rules.{rules}
use native.Mathlib.Omega.{arith}
use Rattle.read_entry.specs.Entries.{read_of, left_of}
use Rattle.read_entry.proofs.Laws as laws
use Rattle.read_entry.proofs.read.Goals as goal

pub returns-then-tables-lt-TABLES_ROOM-clause-value : goal.returns-then-tables-lt-TABLES_ROOM-clause-value
unfolding read_of
returns-then-tables-lt-TABLES_ROOM-clause-value c = search rules

pub returns-then-tables-lt-TABLES_ROOM-clause-tables_after : goal.returns-then-tables-lt-TABLES_ROOM-clause-tables_after
unfolding read_of left_of
returns-then-tables-lt-TABLES_ROOM-clause-tables_after c = search rules

pub returns-clause-value : goal.returns-clause-value
unfolding read_of
returns-clause-value c = search rules

pub returns-clause-tables_after : goal.returns-clause-tables_after
returns-clause-tables_after c = laws.room-left c.args.text.now c.args.tables.now c.pass.result c.pass.new.out (omega arith) c.pass.ensures.value c.pass.ensures.out_after
