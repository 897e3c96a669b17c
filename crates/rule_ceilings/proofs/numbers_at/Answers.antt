use Rattle.rule_ceilings.specs.Ceilings as tops
use native.Mathlib.Omega.{arith}
use borrow.Author.Tests.{eq-eqb, ne_eqb}
use Rattle.rule_ceilings.proofs.numbers_at.Goals as goal

pub returns-then-is_array : goal.returns-then-is_array
unfolding tops.numbers_at
returns-then-is_array c = record { value = rw (← c.byte_at.ensures, ← c.among.ensures, c.if-among.true, ← c.word_at.ensures.value, eq-eqb _ _ c.if-word_at-h.true, ← c.is_array.ensures, c.if-is_array.true) c.word_on.ensures.value; upper_bound = c.word_on.ensures.upper_bound }

pub returns-then-word_at-h : goal.returns-then-word_at-h
unfolding tops.numbers_at
returns-then-word_at-h c = record { value = rw (← c.byte_at.ensures, ← c.among.ensures, c.if-among.true, ← c.word_at.ensures.value, eq-eqb _ _ c.if-word_at-h.true, ← c.is_array.ensures, c.if-is_array.false); upper_bound = omega arith }

pub returns-else-word_at-h : goal.returns-else-word_at-h
unfolding tops.numbers_at
returns-else-word_at-h c = record { value = rw (← c.byte_at.ensures, ← c.among.ensures, c.if-among.true, ← c.word_at.ensures.value, ne_eqb _ _ c.if-word_at-h.false); upper_bound = omega arith }

pub returns-else-among : goal.returns-else-among
unfolding tops.numbers_at
returns-else-among c = record { value = rw (← c.byte_at.ensures, ← c.among.ensures, c.if-among.false); upper_bound = omega arith }
