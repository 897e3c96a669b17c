use Rattle.rule_item.specs.Rules as rules
use Rattle.rule_item.proofs.bad_size.Goals as goal

pub returns : goal.returns
unfolding rules.bad_size
returns c = rw (c.choose.ensures, c.both.ensures, c.word_at-v.ensures.value, c.minus.ensures)
