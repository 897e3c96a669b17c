use Rattle.base_ceilings.specs.Ceilings.{numbers_most}
use Rattle.step_messages.specs.Messages.{gather_end, gather_list}
use mathlib.Core.Path.{◌≡◌}
use Prim.Native.Nat.{◌-◌}
use Rattle.step_messages.proofs.gather.Given as goal

abbrev pub invariant-loop-k : goal.invariant-loop-k
invariant-loop-k l = (gather_end l.t l.s l.p (numbers_most - l.k) l.j ≡ gather_end l.t l.s l.p numbers_most l.a) × (gather_list l.t l.s l.p (numbers_most - l.k) l.j l.k l.values ≡ gather_list l.t l.s l.p numbers_most l.a 0 l.initial.values)
