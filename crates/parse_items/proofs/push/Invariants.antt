use Prim.Native.Nat.{◌-◌, ◌+◌}
use mathlib.Core.Path.{◌≡◌}
use mathlib.Core.List.{◌++◌}
use lib.ListN.{drop}
use Rattle.parse_tables.specs.Tables.{span}
use Rattle.parse_machine.specs.Machine.{marked}
use Rattle.parse_items.proofs.push.Given as goal

abbrev pub invariant-loop-k : goal.invariant-loop-k
invariant-loop-k l = drop (l.at + l.k) l.stack ≡ marked l.marking (span (l.first + l.k) (l.n - l.k)) ++ drop l.top l.initial.stack
