use Prim.Native.Nat.{◌-◌}
use mathlib.Core.Path.{◌≡◌}
use Rattle.base_pens.specs.Pen.{pen, puts}
use Rattle.table_layout.specs.Tables as spec
use Rattle.table_layout.proofs.put_links.Given as goal

abbrev pub invariant-loop-i : goal.invariant-loop-i
invariant-loop-i l = puts (spec.linked l.links l.i (l.n - l.i)) (pen l.out l.q) ≡ puts (spec.linked l.links 0 l.n) (pen l.initial.out l.p)
