use Rattle.rule_item.specs.Rules as rules
use Rattle.rule_item.proofs.bad_twice.Goals as goal

pub returns : goal.returns
unfolding rules.bad_twice
returns c = λ k s. rw (c.choose.ensures, c.either.ensures, c.find-d.ensures k s, c.word_at.ensures.value, c.word_at-w.ensures.value, c.minus.ensures)
