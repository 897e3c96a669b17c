use Rattle.rule_item.specs.Rules as rules
use Rattle.rule_item.proofs.bad_break.Goals as goal

pub returns : goal.returns
unfolding rules.bad_break
returns c = rw (c.choose.ensures, c.count-2.ensures, c.count.ensures, c.word_at-h.ensures.value)
