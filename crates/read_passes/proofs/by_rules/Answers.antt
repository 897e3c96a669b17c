use borrow.Author.Rules.{rules}
use Rattle.read_passes.specs.Judging.{by_rules, tables_from}
use Rattle.read_passes.proofs.by_rules.Goals as goal

pub returns-then-passed-clause-value : goal.returns-then-passed-clause-value
unfolding by_rules
returns-then-passed-clause-value c = search rules

pub returns-in-At-clause-value : goal.returns-in-At-clause-value
unfolding by_rules
returns-in-At-clause-value c = search rules

pub returns-else-passed-clause-value : goal.returns-else-passed-clause-value
unfolding by_rules
returns-else-passed-clause-value c = search rules

pub returns-else-passed-clause-out_after : goal.returns-else-passed-clause-out_after
unfolding tables_from
returns-else-passed-clause-out_after c = search rules
