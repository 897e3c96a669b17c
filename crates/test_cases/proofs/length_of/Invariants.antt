use Prim.Native.Nat.{◌<◌}
use Rattle.test_cases.proofs.length_of.Given as goal

abbrev pub invariant-loop-b : goal.invariant-loop-b
invariant-loop-b l = l.n < 100000
