use mathlib.Core.Path.{◌≡◌}
use Rattle.spec_machine.specs.Machine.{list_from}
use Rattle.step_all.specs.Moving.{processes, machine_in, nth_in}
use Prim.Native.Nat.{◌-◌}
use Rattle.step_all.proofs.Shut.{Known}
use Rattle.step_all.proofs.nth_by.Given as goal

abbrev pub invariant-loop-p : goal.invariant-loop-p
invariant-loop-p l = Known l.t l.s l.shut × (nth_in l.left (list_from (machine_in l.t) l.s l.late l.p (l.count - l.p)) ≡ nth_in l.n (list_from (machine_in l.t) l.s l.late 0 (processes l.s)))
