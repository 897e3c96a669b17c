use Rattle.step_messages.proofs.Laws.{copied}
use Rattle.step_messages.proofs.copy_cell.Goals as goal

pub returns : goal.returns
returns c = copied c.args.s.now _ c.args.to c.args.from c.cell-v.type_inv c.cell-v.ensures c.put.ensures
