use Rattle.rule_item.specs.Rules as rules
use native.Mathlib.Omega.{arith}
use Rattle.rule_item.proofs.global.Goals as goal

pub returns : goal.returns
unfolding rules.global_of
returns c = λ k. rw (c.find.ensures k (omega arith), c.word_at.ensures.value)
