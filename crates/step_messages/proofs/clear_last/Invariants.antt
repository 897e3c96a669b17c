use Rattle.base_ceilings.specs.Ceilings.{capacity_most, fields_most}
use Rattle.state_layout.specs.Walks.{walk}
use Rattle.state_layout.specs.Layout.{field_at}
use lib.IntN.{pos}
use lib.ListN.{set}
use mathlib.Core.Path.{◌≡◌}
use Prim.Native.Nat.{◌-◌}
use Rattle.step_messages.proofs.clear_last.Given as goal

abbrev pub invariant-loop-i : goal.invariant-loop-i
invariant-loop-i l = (walk (λ n x. set x (field_at l.c (capacity_most - 1) n) (pos 0)) l.i (fields_most - l.i) l.s ≡ walk (λ n x. set x (field_at l.c (capacity_most - 1) n) (pos 0)) 0 fields_most l.initial.s)
