use Rattle.step_ready.proofs.Laws.{compared_into, compared_else}
use Rattle.step_ready.proofs.is_compared.Goals as goal

pub returns-then-code : goal.returns-then-code
returns-then-code c = compared_into c.args.t.now c.args.m c.code.ensures c.if-code.true c.minus_one.ensures c.link.ensures.value c.code-then-code.ensures

pub returns-else-code : goal.returns-else-code
returns-else-code c = compared_else c.args.t.now c.args.m c.code.ensures c.if-code.false
