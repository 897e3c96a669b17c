use Rattle.rule_item.specs.Rules as rules
use Rattle.rule_item.proofs.bad_second.Goals as goal

pub returns : goal.returns
unfolding rules.bad_second
returns c = rw (c.choose.ensures, c.count.ensures)
