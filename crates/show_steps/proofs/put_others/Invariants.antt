use Rattle.show_steps.specs.Steps.{others_in, listed_in}
use Rattle.base_pens.specs.Pen.{pen, puts}
use lib.ListN.{drop}
use mathlib.Core.Path.{◌≡◌}
use Rattle.show_steps.proofs.put_others.Given as goal

abbrev pub invariant-loop-n : goal.invariant-loop-n
invariant-loop-n l = puts (others_in l.t l.process (drop l.n (listed_in l.t l.s))) (pen l.out l.q) ≡ puts (others_in l.t l.process (listed_in l.t l.s)) (pen l.initial.out l.initial.q)
