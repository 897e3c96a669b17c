use Rattle.rule_sheets.specs.Spans.{start_of}
use native.Mathlib.Omega.{arith}
use borrow.Author.Tests.{ne_eqb}
use Rattle.rule_sheets.proofs.start_of.Goals as goal

pub returns-in-1 : goal.returns-in-1
unfolding start_of
returns-in-1 c = record { value = rw (← c.byte_at.ensures, ← c.shape_of.ensures, c.in-1.is) c.minus-in-1.ensures; upper_bound = omega arith }

pub returns-in-2 : goal.returns-in-2
unfolding start_of
returns-in-2 c = record { value = rw (← c.byte_at.ensures, ← c.shape_of.ensures, c.in-2.is) (rw (c.minus-in-2.ensures, c.word_at-last.ensures.value, c.minus.ensures)); upper_bound = omega arith }

pub returns-in-3 : goal.returns-in-3
unfolding start_of
returns-in-3 c = record { value = rw (← c.byte_at.ensures, ← c.shape_of.ensures, c.in-3.is) (rw (c.word_at-last.ensures.value, c.minus.ensures)); upper_bound = omega arith }

pub returns-in-4 : goal.returns-in-4
unfolding start_of
returns-in-4 c = record { value = rw (← c.byte_at.ensures, ← c.shape_of.ensures, c.in-4.is) (rw (c.word_at.ensures.value, c.minus-in-4.ensures, c.word_at-last.ensures.value, c.minus.ensures)); upper_bound = c.word_at.ensures.upper_bound }

pub returns-in-5 : goal.returns-in-5
unfolding start_of
returns-in-5 c = record { value = rw (← c.byte_at.ensures, ← c.shape_of.ensures, c.in-5.is) (rw (c.word_at-in-5-2.ensures.value, c.minus-in-5-2.ensures, c.word_at-in-5.ensures.value, c.minus-in-5.ensures, c.word_at-last.ensures.value, c.minus.ensures)); upper_bound = c.word_at-in-5-2.ensures.upper_bound }

pub returns-in_default : goal.returns-in_default
unfolding start_of
returns-in_default c = record { value = simp (← c.byte_at.ensures, ← c.shape_of.ensures, ne_eqb _ _ c.in_default.in_default-own.rest.1, ne_eqb _ _ c.in_default.in_default-own.rest.0.1, ne_eqb _ _ c.in_default.in_default-own.rest.0.0.1, ne_eqb _ _ c.in_default.in_default-own.rest.0.0.0.1, ne_eqb _ _ c.in_default.in_default-own.rest.0.0.0.0.1); upper_bound = omega arith }
