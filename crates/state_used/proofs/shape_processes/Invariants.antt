use Rattle.state_used.specs.Shapes.{process_shaped}
use Prim.Native.Nat.{◌-◌}
use mathlib.Core.Path.{◌≡◌}
use Rattle.state_layout.specs.Walks.{walk}
use Rattle.state_used.proofs.shape_processes.Given as goal

abbrev pub invariant-loop-p : goal.invariant-loop-p
invariant-loop-p l = walk (process_shaped l.t l.s) l.p (l.n - l.p) l.x ≡ walk (process_shaped l.t l.s) 0 l.n l.initial.x
