use mathlib.Core.Path.{◌≡◌}
use Prim.Native.Nat.{◌+◌, ◌-◌, ◌≤◌, max}
use lib.ListN.{length}
use Rattle.link_places.specs.Places.{close_from, close_of_lem}
use Rattle.link_places.proofs.close_of.Given as goal

abbrev pub invariant-loop-i : goal.invariant-loop-i
invariant-loop-i l = (l.d ≤ l.i + 1) × (l.i ≤ max l.k (length l.codes)) × (close_from l.codes l.pair l.i l.d (length l.codes - l.i) ≡ close_of_lem l.codes l.pair l.k)
