use Rattle.rule_item.specs.Rules as rules
use borrow.Author.Tests.{ne_eqb}
use Rattle.rule_item.proofs.bad_count.Goals as goal

pub returns-in-72 : goal.returns-in-72
unfolding rules.bad_count
returns-in-72 c = λ k. rw (← c.byte_at.ensures, c.in-72.is) (rw (c.choose.ensures, c.word_at.ensures.value))

pub returns-in-194 : goal.returns-in-194
unfolding rules.bad_count
returns-in-194 c = λ k. rw (← c.byte_at.ensures, c.in-194.is) c.choose-in-194.ensures

pub returns-in-195 : goal.returns-in-195
unfolding rules.bad_count
returns-in-195 c = λ k. rw (← c.byte_at.ensures, c.in-195.is) c.choose-in-195.ensures

pub returns-in-202 : goal.returns-in-202
unfolding rules.bad_count
returns-in-202 c = λ k. rw (← c.byte_at.ensures, c.in-202.is) (c.bad_passing.ensures k)

pub returns-in-203 : goal.returns-in-203
unfolding rules.bad_count
returns-in-203 c = λ k. rw (← c.byte_at.ensures, c.in-203.is) (c.bad_passing-in-203.ensures k)

pub returns-in_default : goal.returns-in_default
unfolding rules.bad_count
returns-in_default c = λ k. simp (← c.byte_at.ensures, ne_eqb _ _ c.in_default.in_default-own.rest.1, ne_eqb _ _ c.in_default.in_default-own.rest.0.1, ne_eqb _ _ c.in_default.in_default-own.rest.0.0.1, ne_eqb _ _ c.in_default.in_default-own.rest.0.0.0.1, ne_eqb _ _ c.in_default.in_default-own.rest.0.0.0.0.1)
