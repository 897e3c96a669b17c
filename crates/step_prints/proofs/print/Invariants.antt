use Rattle.step_prints.specs.Printing.{pen, puts, written_from}
use mathlib.Core.Path.{◌≡◌}
use Prim.Native.Nat.{◌≤◌, ◌-◌}
use Rattle.step_prints.proofs.print.Given as goal

abbrev pub invariant-loop-i : goal.invariant-loop-i
invariant-loop-i l = (l.k ≤ l.i) × (puts (written_from l.t l.values (l.n - l.i) l.j l.i l.was l.k) (pen l.out l.q) ≡ puts (written_from l.t l.values l.n l.j 0 0 0) (pen l.initial.out l.w))
