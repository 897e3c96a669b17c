use Rattle.base_pens.specs.Pen.{puts}
use Rattle.write_letters.proofs.space_if.Goals as goal

pub returns-then-b : goal.returns-then-b
unfolding puts
returns-then-b c = rw c.if-b.true c.put.ensures

pub returns-else-b : goal.returns-else-b
unfolding puts
returns-else-b c = rw c.if-b.false
