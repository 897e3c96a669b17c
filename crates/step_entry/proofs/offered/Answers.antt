use Rattle.step_entry.proofs.Laws as laws
use Rattle.step_entry.proofs.offered.Goals as goal

pub returns-then-x-ne0 : goal.returns-then-x-ne0
returns-then-x-ne0 c = laws.offered_refused c.args.tables.now c.args.state.now c.refusal-x.ensures c.args.n c.if-x-ne0.true

pub overflow_sub-result : goal.overflow_sub-result
overflow_sub-result c = laws.left-within _ _ c.args.n c.in-Beyond.left c.nth-o.ensures c.in-Beyond.is

pub returns-in-Step : goal.returns-in-Step
returns-in-Step c = laws.offered_is c.args.tables.now c.args.state.now c.refusal-x.ensures c.args.n c.if-x-ne0.false c.written.ensures c.nth-o.ensures _ c.in-Step.is

pub returns-in-Beyond : goal.returns-in-Beyond
returns-in-Beyond c = laws.offered_is c.args.tables.now c.args.state.now c.refusal-x.ensures c.args.n c.if-x-ne0.false c.written.ensures c.nth-o.ensures _ c.in-Beyond.is
