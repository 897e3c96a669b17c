use Rattle.write_rows.specs.Rules.{rows, cells}
use Rattle.write_rows.proofs.lay_cells.Goals as goal

pub returns : goal.returns
unfolding cells rows
returns c = c.copy.ensures
