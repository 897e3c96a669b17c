use borrow.Author.Tests.{eq-eqb, ne_eqb}
use mathlib.Core.Bool.{not}
use mathlib.Core.Path.{ap}
use Rattle.step_eval.proofs.decided.Goals as goal

pub returns-then-op-eq1 : goal.returns-then-op-eq1
returns-then-op-eq1 c = rw (← c.is_fault.ensures, c.if-is_fault.false, eq-eqb _ _ c.if-op-eq1.true) c.holds.ensures

pub returns-else-op-eq1 : goal.returns-else-op-eq1
returns-else-op-eq1 c = rw (← c.is_fault.ensures, c.if-is_fault.false, ne_eqb _ _ c.if-op-eq1.false) (ap not c.holds-else-op-eq1.ensures)
