use Rattle.rule_least.specs.Faults as faults
use borrow.Author.Tests.{eq-eqb, ne_eqb, lt-ltb, le-ltb}
use Rattle.rule_least.proofs.place_by.Goals as goal

pub returns-then-rule-lt7 : goal.returns-then-rule-lt7
unfolding faults.place_by
returns-then-rule-lt7 c = rw (lt-ltb _ _ c.if-rule-lt7.true) c.word_at.ensures.value

pub returns-then-rule-lt15 : goal.returns-then-rule-lt15
unfolding faults.place_by
returns-then-rule-lt15 c = rw (le-ltb _ _ c.if-rule-lt7.false, lt-ltb _ _ c.if-rule-lt15.true) (rw (c.word_at-then-rule-lt15.ensures.value, c.minus.ensures))

pub returns-then-rule-eq15 : goal.returns-then-rule-eq15
unfolding faults.place_by
returns-then-rule-eq15 c = rw (le-ltb _ _ c.if-rule-lt7.false, le-ltb _ _ c.if-rule-lt15.false, eq-eqb _ _ c.if-rule-eq15.true) (rw (c.word_at-then-rule-eq15-2.ensures.value, c.word_at-then-rule-eq15.ensures.value))

pub returns-then-rule-eq17 : goal.returns-then-rule-eq17
unfolding faults.place_by
returns-then-rule-eq17 c = rw (le-ltb _ _ c.if-rule-lt7.false, le-ltb _ _ c.if-rule-lt15.false, ne_eqb _ _ c.if-rule-eq15.false, eq-eqb _ _ c.if-rule-eq17.true) (rw c.word_at-then-rule-eq17.ensures.value)

pub returns-then-byte_at : goal.returns-then-byte_at
unfolding faults.place_by
returns-then-byte_at c = rw (le-ltb _ _ c.if-rule-lt7.false, le-ltb _ _ c.if-rule-lt15.false, ne_eqb _ _ c.if-rule-eq15.false, ne_eqb _ _ c.if-rule-eq17.false, ← c.opener-o.ensures, ← c.byte_at.ensures, eq-eqb _ _ c.if-byte_at.true) (rw (c.word_at-then-byte_at.ensures.value, c.minus-then-byte_at.ensures))

pub returns : goal.returns
unfolding faults.place_by
returns c = rw (le-ltb _ _ c.if-rule-lt7.false, le-ltb _ _ c.if-rule-lt15.false, ne_eqb _ _ c.if-rule-eq15.false, ne_eqb _ _ c.if-rule-eq17.false, ← c.opener-o.ensures, ← c.byte_at.ensures, ne_eqb _ _ c.if-byte_at.false) c.word_at-2.ensures.value
