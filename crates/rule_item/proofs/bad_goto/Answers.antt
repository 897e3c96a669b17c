use Rattle.rule_item.specs.Rules as rules
use native.Mathlib.Omega.{arith}
use Rattle.rule_item.proofs.bad_goto.Goals as goal

pub returns : goal.returns
unfolding rules.bad_goto
returns c = λ k. rw (c.choose.ensures, c.find.ensures k (omega arith), c.word_at.ensures.value, c.word_at-w.ensures.value, c.minus.ensures)
