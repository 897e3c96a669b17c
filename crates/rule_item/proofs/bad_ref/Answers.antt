use Rattle.rule_item.specs.Rules as rules
use Rattle.rule_item.proofs.bad_ref.Goals as goal

pub returns : goal.returns
unfolding rules.bad_ref
returns c = λ k. rw (c.bad_use.ensures k, c.byte_at.ensures, c.role_of.ensures, c.byte_on.ensures, c.word_at-2.ensures.value, c.word_at.ensures.value)
