use Rattle.state_used.specs.Shapes.{message_shaped}
use Prim.Native.Nat.{◌-◌}
use mathlib.Core.Path.{◌≡◌}
use Rattle.state_layout.specs.Walks.{walk}
use Rattle.state_used.proofs.shape_messages.Given as goal

abbrev pub invariant-loop-m : goal.invariant-loop-m
invariant-loop-m l = walk (message_shaped l.t l.s l.c l.d) l.m (l.n - l.m) l.x ≡ walk (message_shaped l.t l.s l.c l.d) 0 l.n l.initial.x
