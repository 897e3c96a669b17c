use mathlib.Core.Path.{◌≡◌}
use Prim.Native.Nat.{◌-◌}
use Rattle.spec_machine.specs.Machine.{any_from}
use Rattle.step_all.specs.Moving.{processes, machine_in}
use Rattle.step_all.proofs.is_any.Given as goal

abbrev pub invariant-loop-p : goal.invariant-loop-p
invariant-loop-p l = any_from (machine_in l.t) l.s l.late l.p (l.n - l.p) ≡ any_from (machine_in l.t) l.s l.late 0 (processes l.s)
