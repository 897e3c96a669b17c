use native.Mathlib.Omega.{arith}
use Rattle.link_items.specs.Links.{type_at}
use Rattle.link_items.proofs.type_at.Goals as goal

pub returns : goal.returns
unfolding type_at
returns c = record { value = rw (← c.after.ensures, ← c.minus.ensures, ← c.byte_at-c.ensures, ← c.minus-2.ensures) c.least.ensures; upper_bound = omega (arith, c.least.ensures) }
