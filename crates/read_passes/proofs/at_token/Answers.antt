use borrow.Author.Rules.{rules}
use Rattle.read_passes.specs.Judging.{at_token}
use Rattle.read_passes.proofs.at_token.Goals as goal

pub returns-then-k-starts : goal.returns-then-k-starts
unfolding at_token
returns-then-k-starts c = search rules

pub returns : goal.returns
unfolding at_token
returns c = search rules
