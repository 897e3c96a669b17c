use native.Mathlib.Omega.{arith}
use Rattle.link_items.specs.Links.{size_at}
use Rattle.link_items.proofs.size_at.Goals as goal

pub returns-then-is_array : goal.returns-then-is_array
unfolding size_at
returns-then-is_array c = record { value = rw (← c.is_array.ensures, c.if-is_array.true, ← c.word_on.ensures.value) c.least.ensures; upper_bound = omega (arith, c.least.ensures) }

pub returns-else-is_array : goal.returns-else-is_array
unfolding size_at
returns-else-is_array c = record { value = rw (← c.is_array.ensures, c.if-is_array.false); upper_bound = omega arith }
