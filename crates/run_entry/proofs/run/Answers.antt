use Rattle.run_entry.proofs.Laws as laws
use Rattle.run_entry.proofs.run.Goals as goal

pub returns-then-x-ne0 : goal.returns-then-x-ne0
returns-then-x-ne0 c = laws.run_refused c.args.tables.now c.args.state.now c.args.limit c.refusal-x.ensures c.if-x-ne0.true

pub returns : goal.returns
returns c = laws.run_is c.args.tables.now c.args.state.now c.args.limit c.refusal-x.ensures c.if-x-ne0.false c.written.ensures c.run_on.ensures
