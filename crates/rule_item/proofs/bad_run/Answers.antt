use Rattle.rule_item.specs.Rules as rules
use native.Mathlib.Omega.{arith}
use Rattle.rule_item.proofs.bad_run.Goals as goal

pub returns : goal.returns
unfolding rules.bad_run
returns c = λ k. rw (c.choose-2.ensures, c.choose.ensures, c.among.ensures, c.byte_at.ensures, c.global-g.ensures k, c.find-l.ensures k (omega arith), c.word_at-2.ensures.value, c.word_at.ensures.value, c.minus-m.ensures)
