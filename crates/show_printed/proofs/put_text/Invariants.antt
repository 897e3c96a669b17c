use mathlib.Core.Path.{◌≡◌}
use lib.ListN.{drop}
use Rattle.base_pens.specs.Pen.{pen, puts}
use Rattle.spec_account.specs.Bytes.{shown}
use Rattle.show_printed.proofs.put_text.Given as goal

abbrev pub invariant-loop-b : goal.invariant-loop-b
invariant-loop-b l = puts (shown l.f (drop l.b-index l.text)) (pen l.out l.q) ≡ puts (shown l.fresh l.text) (pen l.initial.out l.initial.q)
