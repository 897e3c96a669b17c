use Rattle.state_used.specs.Shapes.{field_shaped}
use Prim.Native.Nat.{◌-◌}
use mathlib.Core.Path.{◌≡◌}
use Rattle.state_layout.specs.Walks.{walk}
use Rattle.state_used.proofs.shape_message.Given as goal

abbrev pub invariant-loop-f : goal.invariant-loop-f
invariant-loop-f l = walk (field_shaped l.s l.c l.m) l.f (l.n - l.f) l.x ≡ walk (field_shaped l.s l.c l.m) 0 l.n l.initial.x
