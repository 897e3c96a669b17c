use Rattle.show_steps.specs.Steps.{any_of, listed_in}
use lib.ListN.{drop}
use mathlib.Core.Path.{◌≡◌}
use Rattle.show_steps.proofs.is_any.Given as goal

abbrev pub invariant-loop-n : goal.invariant-loop-n
invariant-loop-n l = any_of l.process (drop l.n (listed_in l.t l.s)) ≡ any_of l.process (listed_in l.t l.s)
