use Rattle.state_layout.proofs.Laws.{cell_at}
use Rattle.state_layout.proofs.field_of.Goals as goal

pub returns : goal.returns
returns c = cell_at c.args.s.now c.cell.type_inv c.cell.ensures c.field_at.ensures
