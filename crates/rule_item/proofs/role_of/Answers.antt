use Rattle.rule_item.specs.Rules as rules
use Rattle.rule_item.proofs.role_of.Goals as goal

pub returns : goal.returns
unfolding rules.role_of
returns c = rw (c.choose-3.ensures, c.choose-2.ensures, c.choose.ensures, c.either-2.ensures, c.either.ensures, c.within-2.ensures, c.within.ensures)
