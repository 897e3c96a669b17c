use Rattle.rule_search.specs.Search as finding
use Rattle.rule_sheets.specs.Walks as walks
use Prim.Native.Nat.{◌+◌, ◌-◌, ◌≤◌}
use mathlib.Core.Path.{◌≡◌}
use Rattle.rule_search.proofs.count.Given as goal

abbrev pub invariant-loop-j : goal.invariant-loop-j
invariant-loop-j l = (l.n + l.from ≤ l.j) × (l.n + walks.sum (finding.one l.codes l.homes l.set l.h) l.j (l.to - l.j) ≡ finding.count l.codes l.homes l.set l.h l.from l.to)
