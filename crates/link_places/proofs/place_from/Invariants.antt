use mathlib.Core.Path.{◌≡◌}
use Prim.Native.Nat.{◌-◌, ◌≤◌, max}
use lib.ListN.{length}
use Rattle.rule_sheets.specs.Walks as walks
use Rattle.link_places.specs.Places.{is_stop, place_from}
use Rattle.link_places.proofs.place_from.Given as goal

abbrev pub invariant-loop-i : goal.invariant-loop-i
invariant-loop-i l = (l.i ≤ max l.k (length l.codes)) × (walks.first (is_stop l.codes) l.i (length l.codes - l.i) ≡ place_from l.codes l.k)
