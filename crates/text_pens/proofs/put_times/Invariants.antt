use Rattle.base_pens.specs.Pen.{pen, puts}
use lib.ListN.{replicate}
use mathlib.Core.Path.{◌≡◌}
use Prim.Native.Nat.{◌-◌}
use Rattle.text_pens.proofs.put_times.Given as goal

abbrev pub invariant-loop : goal.invariant-loop
invariant-loop l = puts (replicate (l.n - l.counter) l.b) (pen l.out l.q) ≡ puts (replicate l.n l.b) (pen l.initial.out l.initial.q)
