use native.Mathlib.Omega.{arith}
use Rattle.state_start.specs.Values.{value_at}
use borrow.Author.Tests.{eq-eqb, ne_eqb}
use Rattle.state_start.proofs.value_at.Goals as goal

pub returns-then-code : goal.returns-then-code
unfolding value_at
returns-then-code c = record { value = rw (← c.code.ensures, eq-eqb _ _ c.if-code.true); upper_bound = omega arith }

pub returns-else-code : goal.returns-else-code
unfolding value_at
returns-else-code c = record { value = rw (← c.code.ensures, ne_eqb _ _ c.if-code.false); upper_bound = omega arith }
