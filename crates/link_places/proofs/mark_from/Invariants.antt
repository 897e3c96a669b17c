use mathlib.Core.Path.{◌≡◌}
use Prim.Native.Nat.{◌-◌, ◌≤◌, max}
use lib.ListN.{length, get_or}
use Rattle.rule_sheets.specs.Walks as walks
use Rattle.link_places.specs.Places.{is_mark, mark_from}
use Rattle.link_places.proofs.mark_from.Given as goal

abbrev pub invariant-loop-k : goal.invariant-loop-k
invariant-loop-k l = (l.k ≤ max l.i (length l.codes)) × (walks.first (λ n. is_mark (get_or l.codes n 0)) l.k (length l.codes - l.k) ≡ mark_from l.codes l.i)
