use Rattle.std.proofs.Common.{rules}
use Rattle.show_lists.specs.Tally.{more_if}
use Rattle.show_lists.proofs.tally.more_if.Goals as goal

pub returns-then-eq : goal.returns-then-eq
unfolding more_if
returns-then-eq c = search rules

pub returns-else-eq : goal.returns-else-eq
unfolding more_if
returns-else-eq c = search rules
