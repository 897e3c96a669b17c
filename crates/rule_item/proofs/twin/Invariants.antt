use Rattle.rule_item.specs.Rules as rules
use Prim.Native.Nat.{◌+◌, ◌≤◌}
use mathlib.Core.Path.{◌≡◌}
use Rattle.rule_item.proofs.twin.Given as goal

abbrev pub invariant-loop-k : goal.invariant-loop-k
invariant-loop-k l = (l.d + l.k ≤ l.j + 1) × (rules.twin l.codes l.k l.d ≡ rules.twin l.codes l.j 1)
