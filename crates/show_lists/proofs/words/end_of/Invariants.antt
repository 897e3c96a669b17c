use mathlib.Core.Path.{◌≡◌}
use lib.ListN.{drop}
use Rattle.show_lists.specs.Words as spec
use Rattle.show_lists.proofs.words.end_of.Given as goal

abbrev pub invariant-loop-b : goal.invariant-loop-b
invariant-loop-b l = spec.end_from l.x (drop l.b-index l.line) ≡ spec.end_from l.initial.x l.line
