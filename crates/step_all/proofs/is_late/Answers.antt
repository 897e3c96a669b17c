use Rattle.spec_machine.specs.Machine.{late}
use Rattle.step_all.proofs.is_late.Goals as goal

pub returns-then-is_any : goal.returns-then-is_any
unfolding late
returns-then-is_any c = rw (← c.is_any.ensures, c.if-is_any.true)

pub returns-else-is_any : goal.returns-else-is_any
unfolding late
returns-else-is_any c = rw (← c.is_any.ensures, c.if-is_any.false)
