use Prim.Native.Nat.{◌≤◌}
use mathlib.Core.Path.{◌≡◌}
use lib.ListN.{drop}
use Rattle.base_ceilings.specs.Ceilings.{brackets_most, selections_most}
use Rattle.parse_machine.specs.Depth.{deep, too_deep}
use Rattle.parse_depth.proofs.first_too_deep.Given as goal

abbrev pub invariant-loop-i : goal.invariant-loop-i
invariant-loop-i l = (l.b ≤ brackets_most) × (l.s ≤ selections_most) × (too_deep l.kinds ≡ deep (drop l.i l.kinds) l.b l.s l.i)
