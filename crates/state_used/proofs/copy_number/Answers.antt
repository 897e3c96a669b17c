use Rattle.state_used.proofs.Laws.{copied_as}
use Rattle.state_used.proofs.copy_number.Goals as goal

pub returns : goal.returns
returns c = copied_as c.args.s.now c.args.x.now _ c.args.i c.cell.type_inv c.cell.ensures c.put.ensures
