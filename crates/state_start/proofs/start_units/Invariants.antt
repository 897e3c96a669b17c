use Rattle.state_start.specs.Starting.{unit_started}
use Rattle.state_layout.specs.Walks.{walk}
use mathlib.Core.Path.{◌≡◌}
use Prim.Native.Nat.{◌-◌}
use Rattle.state_start.proofs.start_units.Given as goal

abbrev pub invariant-loop-j : goal.invariant-loop-j
invariant-loop-j l = walk (unit_started l.t) l.j (l.n - l.j) l.s ≡ walk (unit_started l.t) 0 l.n l.initial.s
