use Rattle.show_statement.specs.Statements.{ends_leaf}
use Rattle.show_statement.proofs.ends_leaf.Goals as goal

pub returns : goal.returns
unfolding ends_leaf
returns c = rw (c.either-3.ensures, c.either-2.ensures, c.either.ensures, c.within-2.ensures, c.within.ensures)
