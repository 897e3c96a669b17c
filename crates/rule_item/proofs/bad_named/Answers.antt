use Rattle.rule_item.specs.Rules as rules
use Rattle.rule_item.proofs.bad_named.Goals as goal

pub returns : goal.returns
unfolding rules.bad_named
returns c = λ k. rw (c.choose.ensures, c.byte_at.ensures, c.lookup-d.ensures k, c.word_at-2.ensures.value, c.word_at.ensures.value, c.minus-m.ensures)
