use Rattle.write_lines.specs.Lines.{bodies}
use native.Mathlib.Omega.{arith}
use Rattle.write_lines.proofs.bodies.Goals as goal

pub returns-then-either : goal.returns-then-either
unfolding bodies
returns-then-either c = record { value = rw (← c.either.ensures, c.if-either.true); upper_bound = omega arith }

pub returns-else-either : goal.returns-else-either
unfolding bodies
returns-else-either c = record { value = rw (← c.either.ensures, c.if-either.false); upper_bound = omega arith }
