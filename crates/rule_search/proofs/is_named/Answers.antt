use Rattle.rule_search.specs.Chain.{is_named}
use Rattle.rule_search.proofs.is_named.Goals as goal

pub returns : goal.returns
unfolding is_named
returns c = rw (c.either.ensures, c.among.ensures, c.among-2.ensures)
