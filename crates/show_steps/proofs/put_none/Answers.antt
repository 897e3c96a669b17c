use Rattle.base_pens.proofs.Pen as pens
use Rattle.show_steps.proofs.put_none.Goals as goal

pub returns-then-any : goal.returns-then-any
returns-then-any c = rw c.if-any.true (pens.none-put _)

pub returns : goal.returns
returns c = rw c.if-any.false c.put_all.ensures
