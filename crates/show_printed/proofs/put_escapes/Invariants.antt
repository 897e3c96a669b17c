use Rattle.spec_account.specs.Bytes.{each_escaped}
use Rattle.base_pens.specs.Pen.{pen, puts}
use lib.ListN.{drop}
use mathlib.Core.Path.{◌≡◌}
use Rattle.show_printed.proofs.put_escapes.Given as goal

abbrev pub invariant-loop-b : goal.invariant-loop-b
invariant-loop-b l = puts (each_escaped (drop l.b-index l.text)) (pen l.out l.q) ≡ puts (each_escaped l.text) (pen l.initial.out l.initial.q)
