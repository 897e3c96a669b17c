use Rattle.rule_item.specs.Rules as rules
use Rattle.rule_item.proofs.is_array.Goals as goal

pub returns : goal.returns
unfolding rules.is_array
returns c = rw (c.both.ensures, c.byte_on-2.ensures, c.byte_on.ensures)
