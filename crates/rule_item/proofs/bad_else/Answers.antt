use Rattle.rule_item.specs.Rules as rules
use Rattle.rule_item.proofs.bad_else.Goals as goal

pub returns : goal.returns
unfolding rules.bad_else
returns c = rw (c.choose-2.ensures, c.choose.ensures, c.twin.ensures, c.byte_at.ensures, c.minus-i.ensures)
