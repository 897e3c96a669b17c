use Rattle.base_ceilings.specs.Ceilings.{fields_most}
use Rattle.step_ready.specs.Channels.{arguments_from}
use mathlib.Core.Path.{◌≡◌}
use Prim.Native.Nat.{◌-◌, ◌+◌}
use Rattle.step_ready.proofs.arguments.Given as goal

abbrev pub invariant-loop-n : goal.invariant-loop-n
invariant-loop-n l = (l.n + arguments_from l.t ((fields_most + 1) - l.n) l.j ≡ arguments_from l.t (fields_most + 1) l.a)
