use Rattle.state_layout.proofs.Laws.{count_of_lem}
use Rattle.state_layout.proofs.count.Goals as goal

pub returns : goal.returns
returns c = record { value = count_of_lem c.cell.type_inv c.cell.ensures c.natural.ensures.value; upper_bound = c.natural.ensures.upper_bound }
