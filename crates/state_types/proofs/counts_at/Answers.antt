use Rattle.state_types.proofs.Laws.{counts_as}
use Rattle.state_types.proofs.counts_at.Goals as goal

pub returns : goal.returns
returns c = counts_as c.args.s.now c.args.most c.args.i c.cell.type_inv c.cell.ensures c.count.ensures.value c.least.ensures c.kept.type_inv c.kept.ensures
