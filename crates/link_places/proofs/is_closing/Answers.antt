use borrow.Author.Tests.{ne_eqb}
use Rattle.base_codes.specs.Sets.{is_closing}
use Rattle.link_places.proofs.is_closing.Goals as goal

pub returns-in-0 : goal.returns-in-0
unfolding is_closing
returns-in-0 c = rw c.in-0.is c.either.ensures

pub returns-in-1 : goal.returns-in-1
unfolding is_closing
returns-in-1 c = rw c.in-1.is

pub returns-in-2 : goal.returns-in-2
unfolding is_closing
returns-in-2 c = rw c.in-2.is

pub returns-in-3 : goal.returns-in-3
unfolding is_closing
returns-in-3 c = rw c.in-3.is

pub returns-in-4 : goal.returns-in-4
unfolding is_closing
returns-in-4 c = rw c.in-4.is

pub returns-in_default : goal.returns-in_default
unfolding is_closing
returns-in_default c = simp (ne_eqb _ _ c.in_default.in_default-own.rest.1, ne_eqb _ _ c.in_default.in_default-own.rest.0.1, ne_eqb _ _ c.in_default.in_default-own.rest.0.0.1, ne_eqb _ _ c.in_default.in_default-own.rest.0.0.0.1, ne_eqb _ _ c.in_default.in_default-own.rest.0.0.0.0.1)
