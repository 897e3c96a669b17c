use Prim.Native.Nat.{◌-◌, ◌≤◌, max}
use mathlib.Core.Path.{◌≡◌}
use Rattle.rule_sheets.specs.Walks.{first}
use Rattle.show_statement.specs.Statements.{leaf_end}
use Rattle.show_statement.proofs.Laws as laws
use Rattle.show_statement.proofs.leaf_end.Given as goal

abbrev pub invariant-loop-i : goal.invariant-loop-i
invariant-loop-i l = (l.i ≤ max l.q l.n) × (first (laws.ending l.t) l.i (l.n - l.i) ≡ leaf_end l.t l.q)
