use Prim.Native.Nat.{◌-◌}
use mathlib.Core.Path.{◌≡◌}
use Rattle.show_waits.specs.Waits.{waits_from, waits_in}
use Rattle.show_waits.proofs.put_waits.Given as goal

abbrev pub invariant-loop-i : goal.invariant-loop-i
invariant-loop-i l = (l.out ≡ l.initial.out) × (waits_from l.t l.s l.i (l.n - l.i) ≡ waits_in l.t l.s)
