use Prim.Native.Nat.{◌-◌}
use mathlib.Core.Path.{◌≡◌}
use Rattle.base_ceilings.specs.Ceilings.{state_room}
use Rattle.state_types.specs.Fits.{every}
use Rattle.state_check.specs.Standing.{same_at}
use Rattle.state_check.proofs.same_numbers.Given as goal

abbrev pub invariant-loop-i : goal.invariant-loop-i
invariant-loop-i l = every (same_at l.x l.s) l.i (state_room - l.i) ≡ every (same_at l.x l.s) 0 state_room
