use Rattle.rule_search.specs.Search as finding
use Rattle.rule_search.specs.Sets as sets
use Rattle.rule_sheets.specs.Walks as walks
use lib.ListN.{get_or}
use mathlib.Core.Path.{◌≡◌}
use Rattle.rule_search.proofs.after.Given as goal

abbrev pub invariant-loop-k : goal.invariant-loop-k
invariant-loop-k l = walks.after (λ i. sets.among l.set (get_or l.codes i 0)) l.k ≡ finding.last l.codes l.set l.j
