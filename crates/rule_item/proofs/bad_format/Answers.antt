use Rattle.rule_item.specs.Rules as rules
use Rattle.rule_item.proofs.bad_format.Goals as goal

pub returns : goal.returns
unfolding rules.bad_format
returns c = rw (c.choose.ensures, c.word_at.ensures.value)
