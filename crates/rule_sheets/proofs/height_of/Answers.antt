use Rattle.rule_sheets.specs.Spans.{height_of}
use native.Mathlib.Omega.{arith}
use borrow.Author.Tests.{ne_eqb}
use Rattle.rule_sheets.proofs.height_of.Goals as goal

pub returns-in-2 : goal.returns-in-2
unfolding height_of
returns-in-2 c = record { value = rw (← c.byte_at.ensures, ← c.shape_of.ensures, c.in-2.is) (rw (c.above.ensures.value, c.word_at-h.ensures.value, c.minus-i.ensures)); upper_bound = c.above.ensures.upper_bound }

pub returns-in-3 : goal.returns-in-3
unfolding height_of
returns-in-3 c = record { value = rw (← c.byte_at.ensures, ← c.shape_of.ensures, c.in-3.is) (rw (c.above-in-3.ensures.value, c.word_at-h.ensures.value, c.minus-i.ensures)); upper_bound = c.above-in-3.ensures.upper_bound }

pub returns-in-4 : goal.returns-in-4
unfolding height_of
returns-in-4 c = record { value = rw (← c.byte_at.ensures, ← c.shape_of.ensures, c.in-4.is) (rw (c.above-in-4.ensures.value, c.greater.ensures, c.word_at.ensures.value, c.minus.ensures, c.word_at-h.ensures.value, c.word_at-last.ensures.value, c.minus-i.ensures)); upper_bound = c.above-in-4.ensures.upper_bound }

pub returns-in-5 : goal.returns-in-5
unfolding height_of
returns-in-5 c = record { value = rw (← c.byte_at.ensures, ← c.shape_of.ensures, c.in-5.is) (rw (c.above-in-5.ensures.value, c.greater-in-5-2.ensures, c.greater-in-5.ensures, c.word_at-in-5-3.ensures.value, c.minus-in-5-3.ensures, c.word_at-in-5-2.ensures.value, c.minus-in-5-2.ensures, c.word_at-in-5.ensures.value, c.minus-in-5.ensures, c.word_at-h.ensures.value, c.word_at-last.ensures.value, c.minus-i.ensures)); upper_bound = c.above-in-5.ensures.upper_bound }

pub returns-in_default : goal.returns-in_default
unfolding height_of
returns-in_default c = record { value = simp (← c.byte_at.ensures, ← c.shape_of.ensures, ne_eqb _ _ c.in_default.in_default-own.rest.1, ne_eqb _ _ c.in_default.in_default-own.rest.0.1, ne_eqb _ _ c.in_default.in_default-own.rest.0.0.1, ne_eqb _ _ c.in_default.in_default-own.rest.0.0.0.1); upper_bound = omega arith }
