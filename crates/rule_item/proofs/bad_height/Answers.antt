use Rattle.rule_item.specs.Rules as rules
use Rattle.rule_item.proofs.bad_height.Goals as goal

pub returns : goal.returns
unfolding rules.bad_height
returns c = rw (c.choose.ensures, c.word_at.ensures.value, c.minus.ensures)
