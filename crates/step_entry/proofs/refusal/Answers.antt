use Rattle.step_entry.proofs.Laws as laws
use Rattle.step_entry.proofs.refusal.Goals as goal

pub returns-then-x-ne0 : goal.returns-then-x-ne0
returns-then-x-ne0 c = laws.refused_before c.args.tables.now c.args.state.now c.foreign-x.ensures c.if-x-ne0.true

pub returns-then-is_state : goal.returns-then-is_state
returns-then-is_state c = laws.is_state c.args.tables.now c.args.state.now c.foreign-x.ensures c.if-x-ne0.false c.written.ensures c.is_state.ensures c.if-is_state.true

pub returns-else-is_state : goal.returns-else-is_state
returns-else-is_state c = laws.no_state c.args.tables.now c.args.state.now c.foreign-x.ensures c.if-x-ne0.false c.written.ensures c.is_state.ensures c.if-is_state.false
