use Rattle.step_ready.specs.Executing.{channels_from}
use mathlib.Core.Path.{◌≡◌}
use Prim.Native.Nat.{◌≤◌, ◌-◌, ◌+◌}
use Rattle.step_ready.proofs.channels_in.Given as goal

abbrev pub invariant-loop-k : goal.invariant-loop-k
invariant-loop-k l = (l.c ≤ l.k) × (l.c + channels_from l.t (l.n - l.k) (l.u + l.k) ≡ channels_from l.t l.n l.u)
