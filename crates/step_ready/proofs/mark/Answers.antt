use Rattle.step_ready.specs.Executing.{mark_of}
use native.Mathlib.Omega.{arith}
use Rattle.step_ready.proofs.mark.Goals as goal

pub returns-then-is_own_mark : goal.returns-then-is_own_mark
unfolding mark_of
returns-then-is_own_mark c = record { value = rw (← c.code.ensures, ← c.is_own_mark.ensures, c.if-is_own_mark.true); upper_bound = omega arith }

pub returns-else-is_own_mark : goal.returns-else-is_own_mark
unfolding mark_of
returns-else-is_own_mark c = record { value = rw (← c.code.ensures, ← c.is_own_mark.ensures, c.if-is_own_mark.false) c.link.ensures.value; upper_bound = c.link.ensures.upper_bound }
