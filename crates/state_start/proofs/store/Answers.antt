use Rattle.state_start.proofs.Laws.{stored_as}
use Rattle.state_start.proofs.store.Goals as goal

pub returns : goal.returns
returns c = stored_as c.args.s.now _ c.args.l c.args.p c.args.v c.ranges.v c.slot.ensures c.type_of.ensures c.cast.ensures c.cast.type_inv c.put.ensures
