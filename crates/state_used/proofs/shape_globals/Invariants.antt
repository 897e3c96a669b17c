use Rattle.state_used.specs.Shapes.{global_shaped}
use Prim.Native.Nat.{◌-◌}
use mathlib.Core.Path.{◌≡◌}
use Rattle.state_layout.specs.Walks.{walk}
use Rattle.state_used.proofs.shape_globals.Given as goal

abbrev pub invariant-loop-j : goal.invariant-loop-j
invariant-loop-j l = walk (global_shaped l.t l.s) l.j (l.n - l.j) l.x ≡ walk (global_shaped l.t l.s) 0 l.n l.initial.x
