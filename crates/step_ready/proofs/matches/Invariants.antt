use Prim.Native.Nat.{◌-◌}
use mathlib.Core.Path.{◌≡◌}
use Rattle.step_ready.specs.Channels.{matches_from}
use Rattle.base_ceilings.specs.Ceilings.{fields_most}
use Rattle.step_ready.proofs.matches.Given as goal

abbrev pub invariant-loop-f : goal.invariant-loop-f
invariant-loop-f l = (matches_from l.t l.s l.p (fields_most - l.f) l.c l.w l.j l.f ≡ matches_from l.t l.s l.p fields_most l.c l.w l.a 0)
