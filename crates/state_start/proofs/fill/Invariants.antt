use Rattle.step_eval.specs.Variables.{slot_of}
use Rattle.state_layout.specs.Walks.{walk}
use lib.ListN.{set}
use mathlib.Core.Path.{◌≡◌}
use Prim.Native.Nat.{◌-◌}
use Rattle.state_start.proofs.fill.Given as goal

abbrev pub invariant-loop-k : goal.invariant-loop-k
invariant-loop-k l = walk (λ i x. set x (slot_of l.l l.p i) l.v) l.k (l.n - l.k) l.s ≡ walk (λ i x. set x (slot_of l.l l.p i) l.v) 0 l.n l.initial.s
