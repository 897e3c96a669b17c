use Rattle.state_types.proofs.Laws.{global-fits, global_free}
use Rattle.state_types.proofs.global_fits.Goals as goal

pub returns-then-is_global : goal.returns-then-is_global
returns-then-is_global c = global-fits c.args.t.now c.args.s.now c.args.j c.is_global.ensures c.if-is_global.true c.link.ensures.value c.variable_fits.ensures

pub returns-else-is_global : goal.returns-else-is_global
returns-else-is_global c = global_free c.args.t.now c.args.s.now c.args.j c.is_global.ensures c.if-is_global.false
