use Prim.Native.Nat.{◌-◌}
use mathlib.Core.Path.{◌≡◌}
use Rattle.state_types.specs.Fits.{every, message_fits}
use Rattle.state_types.proofs.messages_fit.Given as goal

abbrev pub invariant-loop-m : goal.invariant-loop-m
invariant-loop-m l = every (message_fits l.t l.s l.c l.d) l.m (l.n - l.m) ≡ every (message_fits l.t l.s l.c l.d) 0 l.n
