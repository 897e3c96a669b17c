use mathlib.Core.Path.{◌≡◌}
use Prim.Native.Nat.{◌+◌, ◌≤◌}
use Rattle.link_places.specs.Places.{open_of}
use Rattle.link_places.proofs.open_of.Given as goal

abbrev pub invariant-loop-i : goal.invariant-loop-i
invariant-loop-i l = (l.d + l.i ≤ l.k + 1) × (open_of l.codes l.i l.d ≡ open_of l.codes l.k 1)
