use Rattle.step_all.proofs.Laws as laws
use Rattle.step_all.proofs.verdict_of.Goals as goal

pub returns-then-is_ended : goal.returns-then-is_ended
returns-then-is_ended c = laws.finished c.args.t.now c.args.s.now c.is_ended.ensures c.if-is_ended.true

pub returns-then-is_any : goal.returns-then-is_any
returns-then-is_any c = laws.open_is c.args.t.now c.args.s.now c.is_ended.ensures c.if-is_ended.false c.is_late.ensures c.is_any.ensures c.if-is_any.true

pub returns-else-is_any : goal.returns-else-is_any
returns-else-is_any c = laws.blocked_is c.args.t.now c.args.s.now c.is_ended.ensures c.if-is_ended.false c.is_late.ensures c.is_any.ensures c.if-is_any.false
