use Rattle.state_used.proofs.Laws.{local_here, local_other}
use Rattle.state_used.proofs.shape_local.Goals as goal

pub returns-then-is_local : goal.returns-then-is_local
returns-then-is_local c = local_here c.args.t.now c.args.s.now c.args.x.now c.args.j c.args.p c.is_local.ensures c.if-is_local.true c.link.ensures.value c.shape_variable.ensures

pub returns-else-is_local : goal.returns-else-is_local
returns-else-is_local c = local_other c.args.t.now c.args.s.now c.args.x.now c.args.j c.args.p c.is_local.ensures c.if-is_local.false
