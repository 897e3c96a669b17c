use Rattle.rule_item.specs.Rules as rules
use borrow.Author.Tests.{ne_eqb}
use native.Mathlib.Omega.{arith}
use Rattle.rule_item.proofs.bad_by.Goals as goal

pub returns-in-1 : goal.returns-in-1
unfolding rules.bad_by
returns-in-1 c = λ k. rw c.in-1.is c.bad_format.ensures

pub returns-in-2 : goal.returns-in-2
unfolding rules.bad_by
returns-in-2 c = λ k. rw c.in-2.is c.bad_height.ensures

pub returns-in-3 : goal.returns-in-3
unfolding rules.bad_by
returns-in-3 c = λ k. rw c.in-3.is c.bad_break.ensures

pub returns-in-4 : goal.returns-in-4
unfolding rules.bad_by
returns-in-4 c = λ k. rw c.in-4.is c.bad_else.ensures

pub returns-in-5 : goal.returns-in-5
unfolding rules.bad_by
returns-in-5 c = λ k. rw c.in-5.is c.bad_second.ensures

pub returns-in-6 : goal.returns-in-6
unfolding rules.bad_by
returns-in-6 c = λ k. rw c.in-6.is c.bad_second-in-6.ensures

pub returns-in-7 : goal.returns-in-7
unfolding rules.bad_by
returns-in-7 c = λ k. rw c.in-7.is (c.bad_twice.ensures k (omega arith))

pub returns-in-8 : goal.returns-in-8
unfolding rules.bad_by
returns-in-8 c = λ k. rw c.in-8.is (c.bad_twice-in-8.ensures k (omega arith))

pub returns-in-9 : goal.returns-in-9
unfolding rules.bad_by
returns-in-9 c = λ k. rw c.in-9.is (c.bad_goto.ensures k)

pub returns-in-10 : goal.returns-in-10
unfolding rules.bad_by
returns-in-10 c = λ k. rw c.in-10.is (c.bad_run.ensures k)

pub returns-in-11 : goal.returns-in-11
unfolding rules.bad_by
returns-in-11 c = λ k. rw c.in-11.is c.bad_size.ensures

pub returns-in-12 : goal.returns-in-12
unfolding rules.bad_by
returns-in-12 c = λ k. rw c.in-12.is (c.bad_named.ensures k)

pub returns-in-13 : goal.returns-in-13
unfolding rules.bad_by
returns-in-13 c = λ k. rw c.in-13.is c.bad_size-in-13.ensures

pub returns-in-14 : goal.returns-in-14
unfolding rules.bad_by
returns-in-14 c = λ k. rw c.in-14.is c.bad_field.ensures

pub returns-in-15 : goal.returns-in-15
unfolding rules.bad_by
returns-in-15 c = λ k. rw c.in-15.is (c.bad_ref.ensures k)

pub returns-in-16 : goal.returns-in-16
unfolding rules.bad_by
returns-in-16 c = λ k. rw c.in-16.is (c.bad_end.ensures k)

pub returns-in-17 : goal.returns-in-17
unfolding rules.bad_by
returns-in-17 c = λ k. rw c.in-17.is c.bad_height-in-17.ensures

pub returns-in_default : goal.returns-in_default
unfolding rules.bad_by
returns-in_default c = λ k. simp (ne_eqb _ _ c.in_default.in_default-own.rest.1, ne_eqb _ _ c.in_default.in_default-own.rest.0.1, ne_eqb _ _ c.in_default.in_default-own.rest.0.0.1, ne_eqb _ _ c.in_default.in_default-own.rest.0.0.0.1, ne_eqb _ _ c.in_default.in_default-own.rest.0.0.0.0.1, ne_eqb _ _ c.in_default.in_default-own.rest.0.0.0.0.0.1, ne_eqb _ _ c.in_default.in_default-own.rest.0.0.0.0.0.0.1, ne_eqb _ _ c.in_default.in_default-own.rest.0.0.0.0.0.0.0.1, ne_eqb _ _ c.in_default.in_default-own.rest.0.0.0.0.0.0.0.0.1, ne_eqb _ _ c.in_default.in_default-own.rest.0.0.0.0.0.0.0.0.0.1, ne_eqb _ _ c.in_default.in_default-own.rest.0.0.0.0.0.0.0.0.0.0.1, ne_eqb _ _ c.in_default.in_default-own.rest.0.0.0.0.0.0.0.0.0.0.0.1, ne_eqb _ _ c.in_default.in_default-own.rest.0.0.0.0.0.0.0.0.0.0.0.0.1, ne_eqb _ _ c.in_default.in_default-own.rest.0.0.0.0.0.0.0.0.0.0.0.0.0.1, ne_eqb _ _ c.in_default.in_default-own.rest.0.0.0.0.0.0.0.0.0.0.0.0.0.0.1, ne_eqb _ _ c.in_default.in_default-own.rest.0.0.0.0.0.0.0.0.0.0.0.0.0.0.0.1, ne_eqb _ _ c.in_default.in_default-own.rest.0.0.0.0.0.0.0.0.0.0.0.0.0.0.0.0.1)
