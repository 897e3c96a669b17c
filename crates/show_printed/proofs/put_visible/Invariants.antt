use Rattle.spec_account.specs.Bytes.{each_visible}
use Rattle.base_pens.specs.Pen.{pen, puts}
use lib.ListN.{drop}
use mathlib.Core.Path.{◌≡◌}
use Rattle.show_printed.proofs.put_visible.Given as goal

abbrev pub invariant-loop-b : goal.invariant-loop-b
invariant-loop-b l = puts (each_visible (drop l.b-index l.text)) (pen l.out l.q) ≡ puts (each_visible l.text) (pen l.initial.out l.initial.q)
