use Rattle.state_used.specs.Shapes.{local_shaped}
use Prim.Native.Nat.{◌-◌, ◌+◌}
use mathlib.Core.Path.{◌≡◌}
use Rattle.state_layout.specs.Walks.{walk}
use Rattle.state_used.proofs.shape_locals.Given as goal

abbrev pub invariant-loop-k : goal.invariant-loop-k
invariant-loop-k l = walk (λ i y. local_shaped l.t l.s l.p (l.u + i) y) l.k (l.n - l.k) l.x ≡ walk (λ i y. local_shaped l.t l.s l.p (l.u + i) y) 0 l.n l.initial.x
