use Rattle.rule_ceilings.specs.Ceilings as tops
use native.Mathlib.Omega.{arith}
use borrow.Author.Tests.{ne_eqb}
use Rattle.rule_ceilings.proofs.weight.Goals as goal

pub returns-in-1 : goal.returns-in-1
unfolding tops.weight
returns-in-1 c = record { value = rw c.in-1.is (rw (c.one.ensures.value, c.byte_at.ensures)); upper_bound = c.one.ensures.upper_bound }

pub returns-in-2 : goal.returns-in-2
unfolding tops.weight
returns-in-2 c = record { value = rw c.in-2.is (rw (c.one-in-2.ensures.value, c.byte_at-in-2.ensures)); upper_bound = c.one-in-2.ensures.upper_bound }

pub returns-in-3 : goal.returns-in-3
unfolding tops.weight
returns-in-3 c = record { value = rw c.in-3.is (rw (c.one-in-3.ensures.value, c.byte_at-in-3.ensures)); upper_bound = c.one-in-3.ensures.upper_bound }

pub returns-in-4 : goal.returns-in-4
unfolding tops.weight
returns-in-4 c = record { value = rw c.in-4.is c.starts_at.ensures.value; upper_bound = c.starts_at.ensures.upper_bound }

pub returns-in-5 : goal.returns-in-5
unfolding tops.weight
returns-in-5 c = record { value = rw c.in-5.is c.makes_at.ensures.value; upper_bound = c.makes_at.ensures.upper_bound }

pub returns-in-6 : goal.returns-in-6
unfolding tops.weight
returns-in-6 c = record { value = rw c.in-6.is c.wide_at.ensures.value; upper_bound = c.wide_at.ensures.upper_bound }

pub returns-in-7 : goal.returns-in-7
unfolding tops.weight
returns-in-7 c = record { value = rw c.in-7.is c.heavy_at.ensures.value; upper_bound = c.heavy_at.ensures.upper_bound }

pub returns-in_default : goal.returns-in_default
unfolding tops.weight
returns-in_default c = record { value = simp (ne_eqb _ _ c.in_default.in_default-own.rest.1, ne_eqb _ _ c.in_default.in_default-own.rest.0.1, ne_eqb _ _ c.in_default.in_default-own.rest.0.0.1, ne_eqb _ _ c.in_default.in_default-own.rest.0.0.0.1, ne_eqb _ _ c.in_default.in_default-own.rest.0.0.0.0.1, ne_eqb _ _ c.in_default.in_default-own.rest.0.0.0.0.0.1, ne_eqb _ _ c.in_default.in_default-own.rest.0.0.0.0.0.0.1); upper_bound = omega arith }
