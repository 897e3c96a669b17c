use Rattle.rule_search.specs.Sets as sets
use borrow.Author.Tests.{ne_eqb}
use Rattle.rule_search.proofs.among.Goals as goal

pub returns-in-1 : goal.returns-in-1
unfolding sets.among
returns-in-1 c = rw c.in-1.is (rw (c.either-in-1.ensures, c.either.ensures, c.within.ensures))

pub returns-in-2 : goal.returns-in-2
unfolding sets.among
returns-in-2 c = rw c.in-2.is

pub returns-in-3 : goal.returns-in-3
unfolding sets.among
returns-in-3 c = rw c.in-3.is (rw (c.either-in-3.ensures, c.within-in-3.ensures))

pub returns-in-4 : goal.returns-in-4
unfolding sets.among
returns-in-4 c = rw c.in-4.is c.is_opener.ensures

pub returns-in-5 : goal.returns-in-5
unfolding sets.among
returns-in-5 c = rw c.in-5.is c.within-in-5.ensures

pub returns-in-6 : goal.returns-in-6
unfolding sets.among
returns-in-6 c = rw c.in-6.is

pub returns-in-7 : goal.returns-in-7
unfolding sets.among
returns-in-7 c = rw c.in-7.is

pub returns-in-8 : goal.returns-in-8
unfolding sets.among
returns-in-8 c = rw c.in-8.is

pub returns-in-9 : goal.returns-in-9
unfolding sets.among
returns-in-9 c = rw c.in-9.is

pub returns-in-10 : goal.returns-in-10
unfolding sets.among
returns-in-10 c = rw c.in-10.is

pub returns-in-11 : goal.returns-in-11
unfolding sets.among
returns-in-11 c = rw c.in-11.is c.is_statement.ensures

pub returns-in-12 : goal.returns-in-12
unfolding sets.among
returns-in-12 c = rw c.in-12.is

pub returns-in-13 : goal.returns-in-13
unfolding sets.among
returns-in-13 c = rw c.in-13.is c.within-in-13.ensures

pub returns-in-14 : goal.returns-in-14
unfolding sets.among
returns-in-14 c = rw c.in-14.is c.either-in-14.ensures

pub returns-in-15 : goal.returns-in-15
unfolding sets.among
returns-in-15 c = rw c.in-15.is c.within-in-15.ensures

pub returns-in-16 : goal.returns-in-16
unfolding sets.among
returns-in-16 c = rw c.in-16.is

pub returns-in_default : goal.returns-in_default
unfolding sets.among
returns-in_default c = simp (ne_eqb _ _ c.in_default.in_default-own.rest.1, ne_eqb _ _ c.in_default.in_default-own.rest.0.1, ne_eqb _ _ c.in_default.in_default-own.rest.0.0.1, ne_eqb _ _ c.in_default.in_default-own.rest.0.0.0.1, ne_eqb _ _ c.in_default.in_default-own.rest.0.0.0.0.1, ne_eqb _ _ c.in_default.in_default-own.rest.0.0.0.0.0.1, ne_eqb _ _ c.in_default.in_default-own.rest.0.0.0.0.0.0.1, ne_eqb _ _ c.in_default.in_default-own.rest.0.0.0.0.0.0.0.1, ne_eqb _ _ c.in_default.in_default-own.rest.0.0.0.0.0.0.0.0.1, ne_eqb _ _ c.in_default.in_default-own.rest.0.0.0.0.0.0.0.0.0.1, ne_eqb _ _ c.in_default.in_default-own.rest.0.0.0.0.0.0.0.0.0.0.1, ne_eqb _ _ c.in_default.in_default-own.rest.0.0.0.0.0.0.0.0.0.0.0.1, ne_eqb _ _ c.in_default.in_default-own.rest.0.0.0.0.0.0.0.0.0.0.0.0.1, ne_eqb _ _ c.in_default.in_default-own.rest.0.0.0.0.0.0.0.0.0.0.0.0.0.1, ne_eqb _ _ c.in_default.in_default-own.rest.0.0.0.0.0.0.0.0.0.0.0.0.0.0.1, ne_eqb _ _ c.in_default.in_default-own.rest.0.0.0.0.0.0.0.0.0.0.0.0.0.0.0.1)
