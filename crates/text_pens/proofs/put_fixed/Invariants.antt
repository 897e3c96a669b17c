use Rattle.text_pens.specs.Sheet.{spelled_by}
use Rattle.base_pens.specs.Pen.{pen, puts}
use lib.ListN.{drop}
use mathlib.Core.Path.{◌≡◌}
use Rattle.text_pens.proofs.put_fixed.Given as goal

abbrev pub invariant-loop-j : goal.invariant-loop-j
invariant-loop-j l = puts (drop l.j (spelled_by l.k)) (pen l.out l.q) ≡ puts (spelled_by l.k) (pen l.initial.out l.initial.q)
