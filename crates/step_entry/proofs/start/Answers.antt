use Rattle.step_entry.proofs.Laws as laws
use Rattle.step_entry.proofs.start.Goals as goal

pub returns-then-x-ne0 : goal.returns-then-x-ne0
returns-then-x-ne0 c = record { value = c.foreign-x.ensures; state_after = laws.start_refused c.args.tables.now c.args.state.now c.foreign-x.ensures c.if-x-ne0.true }

pub returns : goal.returns
returns c = let all = laws.started c.args.tables.now c.args.state.now c.foreign-x.ensures c.if-x-ne0.false c.written.ensures c.start.ensures in record { value = all.0; state_after = all.1 }
