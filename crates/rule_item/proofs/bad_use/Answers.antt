use Rattle.rule_item.specs.Rules as rules
use borrow.Author.Tests.{eq-eqb, ne_eqb}
use Rattle.rule_item.proofs.bad_use.Goals as goal

pub returns-then-w-eq0 : goal.returns-then-w-eq0
unfolding rules.bad_use
returns-then-w-eq0 c = λ k. rw (← c.word_at-w.ensures.value, eq-eqb _ _ c.if-w-eq0.true) c.bad_plain.ensures

pub returns-then-c : goal.returns-then-c
unfolding rules.bad_use
returns-then-c c = λ k. rw (← c.word_at-w.ensures.value, ne_eqb _ _ c.if-w-eq0.false, ← c.lookup-d.ensures k, ← c.byte_at-c.ensures, eq-eqb _ _ c.if-c.true) (rw (c.bad_plain-then-c.ensures, c.either.ensures))

pub returns-then-among : goal.returns-then-among
unfolding rules.bad_use
returns-then-among c = λ k. rw (← c.word_at-w.ensures.value, ne_eqb _ _ c.if-w-eq0.false, ← c.lookup-d.ensures k, ← c.byte_at-c.ensures, ne_eqb _ _ c.if-c.false, ← c.among.ensures, c.if-among.true) c.bad_variable.ensures

pub returns : goal.returns
unfolding rules.bad_use
returns c = λ k. rw (← c.word_at-w.ensures.value, ne_eqb _ _ c.if-w-eq0.false, ← c.lookup-d.ensures k, ← c.byte_at-c.ensures, ne_eqb _ _ c.if-c.false, ← c.among.ensures, c.if-among.false)
