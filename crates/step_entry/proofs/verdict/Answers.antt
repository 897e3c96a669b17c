use Rattle.step_entry.proofs.Laws as laws
use Rattle.step_entry.proofs.verdict.Goals as goal

pub returns-then-x-ne0 : goal.returns-then-x-ne0
returns-then-x-ne0 c = laws.verdict_refused c.args.tables.now c.args.state.now c.refusal-x.ensures c.if-x-ne0.true

pub returns : goal.returns
returns c = laws.verdict_is c.args.tables.now c.args.state.now c.refusal-x.ensures c.if-x-ne0.false c.written.ensures c.verdict_of.ensures c.into.ensures
