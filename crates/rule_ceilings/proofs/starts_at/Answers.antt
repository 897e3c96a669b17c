use Rattle.rule_ceilings.specs.Ceilings as tops
use native.Mathlib.Omega.{arith}
use borrow.Author.Tests.{ne_eqb}
use Rattle.rule_ceilings.proofs.starts_at.Goals as goal

pub returns-in-224 : goal.returns-in-224
unfolding tops.starts_at
returns-in-224 c = record { value = rw (← c.byte_at.ensures, c.in-224.is); upper_bound = omega arith }

pub returns-in-225 : goal.returns-in-225
unfolding tops.starts_at
returns-in-225 c = record { value = rw (← c.byte_at.ensures, c.in-225.is) (rw (c.word_at.ensures.value, c.minus.ensures)); upper_bound = c.word_at.ensures.upper_bound }

pub returns-in-226 : goal.returns-in-226
unfolding tops.starts_at
returns-in-226 c = record { value = rw (← c.byte_at.ensures, c.in-226.is); upper_bound = omega arith }

pub returns-in_default : goal.returns-in_default
unfolding tops.starts_at
returns-in_default c = record { value = simp (← c.byte_at.ensures, ne_eqb _ _ c.in_default.in_default-own.rest.1, ne_eqb _ _ c.in_default.in_default-own.rest.0.1, ne_eqb _ _ c.in_default.in_default-own.rest.0.0.1); upper_bound = omega arith }
