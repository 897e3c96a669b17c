use Prim.Native.Nat.{◌-◌}
use mathlib.Core.Path.{◌≡◌}
use lib.ListN.{set, get_or}
use lib.IntN.{pos}
use Rattle.base_values.specs.Types.{cast_of}
use Rattle.state_layout.specs.Layout.{field_at}
use Rattle.state_layout.specs.Walks.{walk}
use Rattle.step_messages.specs.Messages.{field_type}
use Rattle.step_messages.proofs.put.Given as goal

abbrev pub invariant-loop-f : goal.invariant-loop-f
invariant-loop-f l = (walk (λ i x. set x (field_at l.c l.w i) (cast_of (field_type l.t l.d i) (get_or l.values i (pos 0)))) l.f (l.n - l.f) l.s ≡ walk (λ i x. set x (field_at l.c l.w i) (cast_of (field_type l.t l.d i) (get_or l.values i (pos 0)))) 0 l.n l.initial.s)
