use Prim.Native.Nat.{◌-◌}
use mathlib.Core.Path.{◌≡◌}
use Rattle.state_types.specs.Fits.{every}
use Rattle.state_check.specs.Standing.{channel_sound}
use Rattle.state_check.proofs.channels_sound.Given as goal

abbrev pub invariant-loop-c : goal.invariant-loop-c
invariant-loop-c l = every (channel_sound l.t l.s) l.c (l.n - l.c) ≡ every (channel_sound l.t l.s) 0 l.n
