use Rattle.state_used.proofs.Laws.{global-here, global_other}
use Rattle.state_used.proofs.shape_global.Goals as goal

pub returns-then-is_global : goal.returns-then-is_global
returns-then-is_global c = global-here c.args.t.now c.args.s.now c.args.x.now c.args.j c.is_global.ensures c.if-is_global.true c.link.ensures.value c.shape_variable.ensures

pub returns-else-is_global : goal.returns-else-is_global
returns-else-is_global c = global_other c.args.t.now c.args.s.now c.args.x.now c.args.j c.is_global.ensures c.if-is_global.false
