use Rattle.base_ceilings.specs.Ceilings.{numbers_most}
use Rattle.step_take.specs.Effects.{end_from}
use mathlib.Core.Path.{◌≡◌}
use Prim.Native.Nat.{◌-◌}
use Rattle.step_take.proofs.end_of.Given as goal

abbrev pub invariant-loop-n : goal.invariant-loop-n
invariant-loop-n l = end_from l.t (numbers_most - l._n) l.j ≡ end_from l.t numbers_most l.a
