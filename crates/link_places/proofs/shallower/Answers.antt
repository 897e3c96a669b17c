use native.Mathlib.Omega.{arith}
use Rattle.link_places.specs.Places.{shallower}
use Rattle.link_places.proofs.shallower.Goals as goal

pub returns-then-is_closing : goal.returns-then-is_closing
unfolding shallower
returns-then-is_closing c = record { value = rw (← c.is_closing.ensures, c.if-is_closing.true); upper_bound = omega arith }

pub returns-then-is_opening : goal.returns-then-is_opening
unfolding shallower
returns-then-is_opening c = record { value = rw (← c.is_closing.ensures, c.if-is_closing.false, ← c.is_opening.ensures, c.if-is_opening.true) c.minus.ensures; upper_bound = omega (arith, c.minus.ensures) }

pub returns-else-is_opening : goal.returns-else-is_opening
unfolding shallower
returns-else-is_opening c = record { value = rw (← c.is_closing.ensures, c.if-is_closing.false, ← c.is_opening.ensures, c.if-is_opening.false); upper_bound = omega arith }
