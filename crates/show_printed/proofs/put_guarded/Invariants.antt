use Rattle.spec_account.specs.Quiet.{guarded}
use Rattle.base_pens.specs.Pen.{pen, puts}
use lib.ListN.{drop}
use mathlib.Core.Bool.{true}
use mathlib.Core.Path.{◌≡◌}
use Rattle.show_printed.proofs.put_guarded.Given as goal

abbrev pub invariant-loop-b : goal.invariant-loop-b
invariant-loop-b l = puts (guarded l.f (drop l.b-index l.text)) (pen l.out l.q) ≡ puts (guarded true l.text) (pen l.initial.out l.initial.q)
