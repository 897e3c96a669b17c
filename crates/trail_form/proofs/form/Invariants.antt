use Prim.Native.Nat.{◌-◌}
use lib.ListN.{length}
use Rattle.trail_form.proofs.Scans as scans
use Rattle.trail_form.proofs.form.Given as goal

abbrev pub invariant-loop-at : goal.invariant-loop-at
invariant-loop-at l = scans.SoFar l.trail l.at l.line l.steps

abbrev pub decreases-loop-at : goal.decreases-loop-at
decreases-loop-at l = length l.trail - l.at
