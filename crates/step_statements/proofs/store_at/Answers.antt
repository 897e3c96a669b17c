use Rattle.step_statements.proofs.Laws.{stored_at_lem}
use Rattle.step_statements.proofs.store_at.Goals as goal

pub returns : goal.returns
returns c = stored_at_lem c.args.t.now c.args.m c.args.i c.args.v c.args.s.now _ c.ranges.v c.minus_one.ensures c.variable-l.ensures c.type_of.ensures c.cast.ensures c.cast.type_inv c.put.ensures
