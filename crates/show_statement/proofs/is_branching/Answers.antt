use Rattle.show_statement.specs.Statements.{is_branching}
use Rattle.show_statement.proofs.is_branching.Goals as goal

pub returns : goal.returns
unfolding is_branching
returns c = c.either.ensures
