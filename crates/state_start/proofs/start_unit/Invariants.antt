use Rattle.state_start.specs.Starting.{process_made}
use Rattle.state_layout.specs.Walks.{walk}
use mathlib.Core.Path.{◌≡◌}
use Prim.Native.Nat.{◌-◌}
use Rattle.state_start.proofs.start_unit.Given as goal

abbrev pub invariant-loop-k : goal.invariant-loop-k
invariant-loop-k l = walk (λ i x. process_made l.t l.j x) l._k (l.n - l._k) l.s ≡ walk (λ i x. process_made l.t l.j x) 0 l.n l.initial.s
