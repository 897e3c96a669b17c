use Rattle.base_pens.proofs.Pen as pens
use Rattle.show_steps.specs.Steps.{row_in}
use Rattle.base_kinds.specs.Kinds.{bytes}
use Rattle.show_steps.proofs.put_not_offered.Goals as goal

pub returns : goal.returns
returns c = pens.then_puts (row_in c.args.i c.args.process c.args.k) (bytes "not offered\n") _ _ _ c.put_row-a.ensures c.put_all.ensures
