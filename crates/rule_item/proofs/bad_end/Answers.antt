use Rattle.rule_item.specs.Rules as rules
use Rattle.rule_item.proofs.bad_end.Goals as goal

pub returns : goal.returns
unfolding rules.bad_end
returns c = λ k. rw (c.bad_count.ensures k, c.count-k.ensures, c.opener-o.ensures, c.word_at.ensures.value)
