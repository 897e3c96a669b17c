use Rattle.state_used.specs.Shapes.{element_shaped}
use Prim.Native.Nat.{◌-◌}
use mathlib.Core.Path.{◌≡◌}
use Rattle.state_layout.specs.Walks.{walk}
use Rattle.state_used.proofs.shape_variable.Given as goal

abbrev pub invariant-loop-k : goal.invariant-loop-k
invariant-loop-k l = walk (element_shaped l.s l.l l.p) l.k (l.n - l.k) l.x ≡ walk (element_shaped l.s l.l l.p) 0 l.n l.initial.x
