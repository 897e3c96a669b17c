use mathlib.Core.Path.{◌≡◌}
use lib.ListN.{drop}
use Rattle.show_lists.specs.Words as spec
use Rattle.show_lists.proofs.words.is_passed.Given as goal

abbrev pub invariant-loop-b : goal.invariant-loop-b
invariant-loop-b l = spec.is_passed (drop l.b-index l.line) ≡ spec.is_passed l.line
