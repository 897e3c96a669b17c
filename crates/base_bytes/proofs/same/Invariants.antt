use Rattle.base_bytes.specs.Lists as lists
use lib.ListN.{drop}
use mathlib.Core.Path.{◌≡◌}
use Rattle.base_bytes.proofs.same.Given as goal

abbrev pub invariant-loop-k : goal.invariant-loop-k
invariant-loop-k l = lists.same (drop l.k l.x) (drop l.k l.y) ≡ lists.same l.x l.y
