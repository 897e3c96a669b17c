use Rattle.text_tokens.proofs.Scans as laws
use lib.ListN.{length}
use Prim.Native.Nat.{◌-◌}
use Rattle.text_tokens.proofs.scan.Given as goal

abbrev pub invariant-loop-i : goal.invariant-loop-i
invariant-loop-i l = laws.SoFar l.text l.kinds l.starts l.ends l.i l.n

abbrev pub decreases-loop-i : goal.decreases-loop-i
decreases-loop-i l = length l.text - l.i
