use Prim.Native.Nat.{◌-◌, ◌+◌}
use mathlib.Core.Path.{◌≡◌}
use lib.ListN.{set}
use Rattle.state_layout.specs.Layout.{field_at, cell_of}
use Rattle.state_layout.specs.Walks.{walk}
use Rattle.step_messages.proofs.move_up.Given as goal

abbrev pub invariant-loop-i : goal.invariant-loop-i
invariant-loop-i l = (walk (λ j x. set x (field_at l.c l.w j) (cell_of x (field_at l.c (l.w + 1) j))) l.i (l.n - l.i) l.s ≡ walk (λ j x. set x (field_at l.c l.w j) (cell_of x (field_at l.c (l.w + 1) j))) 0 l.n l.initial.s)
