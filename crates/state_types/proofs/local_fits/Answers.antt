use Rattle.state_types.proofs.Laws.{local_fits_lem, local_free}
use Rattle.state_types.proofs.local_fits.Goals as goal

pub returns-then-is_local : goal.returns-then-is_local
returns-then-is_local c = local_fits_lem c.args.t.now c.args.s.now c.args.j c.args.p c.is_local.ensures c.if-is_local.true c.link.ensures.value c.variable_fits.ensures

pub returns-else-is_local : goal.returns-else-is_local
returns-else-is_local c = local_free c.args.t.now c.args.s.now c.args.j c.args.p c.is_local.ensures c.if-is_local.false
