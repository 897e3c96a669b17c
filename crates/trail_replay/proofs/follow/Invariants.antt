use lib.ListN.{length}
use Prim.Native.Nat.{◌≤◌}
use Rattle.trail_replay.proofs.Laws as laws
use Rattle.trail_replay.proofs.follow.Given as goal

abbrev pub invariant-loop-i : goal.invariant-loop-i
invariant-loop-i l = (l.at ≤ length l.trail) × laws.Going l.t l.trail l.n l.claim l.initial.s l.failed l.at l.i l.s
