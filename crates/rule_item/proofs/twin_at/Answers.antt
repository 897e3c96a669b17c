use Rattle.rule_item.specs.Rules as rules
use Rattle.rule_item.proofs.twin_at.Goals as goal

pub returns : goal.returns
unfolding rules.twin_at
returns c = rw (c.both-2.ensures, c.both.ensures, c.byte_on.ensures, c.byte_at.ensures)
