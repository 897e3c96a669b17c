use Rattle.step_ready.proofs.Laws.{agrees_compared, agrees-stored}
use Rattle.step_ready.proofs.agrees.Goals as goal

pub returns-then-is_compared : goal.returns-then-is_compared
returns-then-is_compared c = agrees_compared c.args.t.now c.args.s.now c.args.p c.args.c c.args.w c.args.a c.args.m c.args.f c.is_compared.ensures c.if-is_compared.true c.eval.ensures c.field_of.type_inv c.field_of.ensures c.equal.ensures

pub returns-else-is_compared : goal.returns-else-is_compared
returns-else-is_compared c = agrees-stored c.args.t.now c.args.s.now c.args.p c.args.c c.args.w c.args.a c.args.m c.args.f c.is_compared.ensures c.if-is_compared.false
