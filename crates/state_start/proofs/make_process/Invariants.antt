use Rattle.state_start.specs.Starting.{entered}
use Rattle.state_layout.specs.Walks.{walk}
use mathlib.Core.Path.{◌≡◌}
use Prim.Native.Nat.{◌-◌, ◌+◌}
use Rattle.state_start.proofs.make_process.Given as goal

abbrev pub invariant-loop-k : goal.invariant-loop-k
invariant-loop-k l = walk (λ i x. entered l.t l.p (l.u + i) x) l.k (l.n - l.k) l.s ≡ walk (λ i x. entered l.t l.p (l.u + i) x) 0 l.n l.initial.s
