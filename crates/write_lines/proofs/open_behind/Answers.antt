use native.Mathlib.Omega.{arith}
use Rattle.write_lines.proofs.open_behind.Goals as goal

pub returns-then-opens : goal.returns-then-opens
returns-then-opens c = record { value = rw (← c.opens.ensures, c.if-opens.true); upper_bound = omega arith }

pub returns-then-closes : goal.returns-then-closes
returns-then-closes c = record { value = rw (← c.opens.ensures, c.if-opens.false, ← c.closes.ensures, c.if-closes.true) c.minus.ensures; upper_bound = omega (arith, c.minus.ensures) }

pub returns-else-closes : goal.returns-else-closes
returns-else-closes c = record { value = rw (← c.opens.ensures, c.if-opens.false, ← c.closes.ensures, c.if-closes.false); upper_bound = omega arith }
