use Rattle.rule_sheets.specs.Payload.{arg_of, spelled}
use native.Mathlib.Omega.{arith}
use borrow.Author.Tests.{ne_eqb}
use Rattle.rule_sheets.proofs.arg_of.Goals as goal

pub returns-in-70 : goal.returns-in-70
unfolding arg_of
returns-in-70 c = record { value = rw (← c.byte_at.ensures, c.in-70.is) c.name_arg.ensures.value; upper_bound = c.name_arg.ensures.upper_bound }

pub returns-in-71 : goal.returns-in-71
unfolding arg_of spelled
returns-in-71 c = record { value = rw (← c.byte_at.ensures, c.in-71.is) (rw (c.value.ensures, c.part.ensures, c.word_at.ensures.value, c.word_at-in-71.ensures.value, c.word_at-t.ensures.value)); upper_bound = omega (arith, c.value.ensures) }

pub returns-in-72 : goal.returns-in-72
unfolding arg_of spelled
returns-in-72 c = record { value = rw (← c.byte_at.ensures, c.in-72.is) (rw (c.format_arg.ensures.value, c.part-in-72.ensures, c.word_at-in-72.ensures.value, c.word_at-in-72-2.ensures.value, c.word_at-t.ensures.value)); upper_bound = c.format_arg.ensures.upper_bound }

pub returns-in_default : goal.returns-in_default
unfolding arg_of
returns-in_default c = record { value = simp (← c.byte_at.ensures, ne_eqb _ _ c.in_default.in_default-own.rest.1, ne_eqb _ _ c.in_default.in_default-own.rest.0.1, ne_eqb _ _ c.in_default.in_default-own.rest.0.0.1); upper_bound = omega arith }
