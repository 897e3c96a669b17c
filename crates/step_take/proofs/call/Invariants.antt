use Rattle.step_take.specs.Effects.{parameter_set}
use Rattle.state_layout.specs.Walks.{walk}
use mathlib.Core.Path.{◌≡◌}
use Prim.Native.Nat.{◌-◌, ◌+◌}
use Rattle.step_take.proofs.call.Given as goal

abbrev pub invariant-loop-k : goal.invariant-loop-k
invariant-loop-k l = walk (λ i x. parameter_set l.t l.p l.values (l.u + i) x) l.k (l.n - l.k) l.s ≡ walk (λ i x. parameter_set l.t l.p l.values (l.u + i) x) 0 l.n l.initial.s
