use Rattle.base_pens.specs.Pen.{pen, puts}
use lib.ListN.{drop}
use mathlib.Core.Path.{◌≡◌}
use Rattle.text_pens.proofs.put_all.Given as goal

abbrev pub invariant-loop-b : goal.invariant-loop-b
invariant-loop-b l = puts (drop l.b-index l.s) (pen l.out l.q) ≡ puts l.s (pen l.initial.out l.initial.q)
