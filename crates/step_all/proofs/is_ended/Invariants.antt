use mathlib.Core.Path.{◌≡◌}
use Prim.Native.Nat.{◌-◌}
use Rattle.spec_machine.specs.Machine.{ended_from}
use Rattle.step_all.specs.Moving.{processes, machine_in}
use Rattle.step_all.proofs.is_ended.Given as goal

abbrev pub invariant-loop-p : goal.invariant-loop-p
invariant-loop-p l = ended_from (machine_in l.t) l.s l.p (l.n - l.p) ≡ ended_from (machine_in l.t) l.s 0 (processes l.s)
