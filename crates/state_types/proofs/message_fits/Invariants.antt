use Prim.Native.Nat.{◌-◌}
use mathlib.Core.Path.{◌≡◌}
use Rattle.state_types.specs.Fits.{every, field_fits}
use Rattle.state_types.proofs.message_fits.Given as goal

abbrev pub invariant-loop-f : goal.invariant-loop-f
invariant-loop-f l = every (field_fits l.t l.s l.c l.d l.m) l.f (l.n - l.f) ≡ every (field_fits l.t l.s l.c l.d l.m) 0 l.n
