use Rattle.state_used.specs.Shapes.{channel_shaped}
use Prim.Native.Nat.{◌-◌}
use mathlib.Core.Path.{◌≡◌}
use Rattle.state_layout.specs.Walks.{walk}
use Rattle.state_used.proofs.shape_channels.Given as goal

abbrev pub invariant-loop-c : goal.invariant-loop-c
invariant-loop-c l = walk (channel_shaped l.t l.s) l.c (l.n - l.c) l.x ≡ walk (channel_shaped l.t l.s) 0 l.n l.initial.x
