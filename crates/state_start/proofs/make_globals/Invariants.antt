use Rattle.state_start.specs.Starting.{global_made}
use Rattle.state_layout.specs.Walks.{walk}
use mathlib.Core.Path.{◌≡◌}
use Prim.Native.Nat.{◌-◌}
use Rattle.state_start.proofs.make_globals.Given as goal

abbrev pub invariant-loop-j : goal.invariant-loop-j
invariant-loop-j l = walk (global_made l.t) l.j (l.n - l.j) l.s ≡ walk (global_made l.t) 0 l.n l.initial.s
