use native.Mathlib.Omega.{arith}
use Rattle.link_places.specs.Places.{deeper}
use Rattle.link_places.proofs.deeper.Goals as goal

pub returns-then-is_opening : goal.returns-then-is_opening
unfolding deeper
returns-then-is_opening c = record { value = rw (← c.is_opening.ensures, c.if-is_opening.true); upper_bound = omega arith }

pub returns-then-is_closing : goal.returns-then-is_closing
unfolding deeper
returns-then-is_closing c = record { value = rw (← c.is_opening.ensures, c.if-is_opening.false, ← c.is_closing.ensures, c.if-is_closing.true) c.minus.ensures; upper_bound = omega (arith, c.minus.ensures) }

pub returns-else-is_closing : goal.returns-else-is_closing
unfolding deeper
returns-else-is_closing c = record { value = rw (← c.is_opening.ensures, c.if-is_opening.false, ← c.is_closing.ensures, c.if-is_closing.false); upper_bound = omega arith }
