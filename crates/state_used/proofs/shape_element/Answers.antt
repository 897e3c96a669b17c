use Rattle.state_used.proofs.Laws.{element_as}
use Rattle.state_used.proofs.shape_element.Goals as goal

pub returns : goal.returns
returns c = element_as c.args.s.now c.args.x.now _ c.args.l c.args.p c.args.k c.slot.ensures c.copy_number.ensures
