use Rattle.spec_account.specs.Refused.{under}
use Rattle.base_pens.specs.Pen.{pen, puts}
use lib.ListN.{drop}
use mathlib.Core.Path.{◌≡◌}
use Rattle.show_answers.proofs.put_under.Given as goal

abbrev pub invariant-loop-b : goal.invariant-loop-b
invariant-loop-b l = puts (under l.mark (drop l.b-index l.s)) (pen l.out l.q) ≡ puts (under l.mark l.s) (pen l.initial.out l.initial.q)
