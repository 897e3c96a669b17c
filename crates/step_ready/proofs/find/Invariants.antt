use Prim.Native.Nat.{◌-◌}
use mathlib.Core.Path.{◌≡◌}
use Rattle.step_ready.specs.Channels.{found_from}
use Rattle.step_ready.proofs.find.Given as goal

abbrev pub invariant-loop-w : goal.invariant-loop-w
invariant-loop-w l = (found_from l.t l.s l.p (l.n - l.w) l.c l.w l.a ≡ found_from l.t l.s l.p l.n l.c 0 l.a)
