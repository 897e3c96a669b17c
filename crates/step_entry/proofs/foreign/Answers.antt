use native.Mathlib.Omega.{arith}
use Rattle.step_entry.proofs.Laws as laws
use Rattle.step_entry.proofs.foreign.Goals as goal

pub returns-then-tables-lt-TABLES_ROOM : goal.returns-then-tables-lt-TABLES_ROOM
returns-then-tables-lt-TABLES_ROOM c = laws.tables-short c.args.tables.now c.args.state.now (omega arith)

pub returns-then-state-lt-STATE_ROOM : goal.returns-then-state-lt-STATE_ROOM
returns-then-state-lt-STATE_ROOM c = laws.state-short c.args.tables.now c.args.state.now (omega arith) (omega arith)

pub returns-then-is_genuine : goal.returns-then-is_genuine
returns-then-is_genuine c = laws.own c.args.tables.now c.args.state.now (omega arith) (omega arith) c.is_genuine.ensures c.if-is_genuine.true

pub returns-else-is_genuine : goal.returns-else-is_genuine
returns-else-is_genuine c = laws.not_own c.args.tables.now c.args.state.now (omega arith) (omega arith) c.is_genuine.ensures c.if-is_genuine.false
