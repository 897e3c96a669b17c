use borrow.Author.Tests.{ne_eqb}
use Rattle.base_codes.specs.Sets.{is_opening}
use Rattle.link_places.proofs.is_opening.Goals as goal

pub returns-in-0 : goal.returns-in-0
unfolding is_opening
returns-in-0 c = rw c.in-0.is c.either.ensures

pub returns-in-1 : goal.returns-in-1
unfolding is_opening
returns-in-1 c = rw c.in-1.is

pub returns-in-2 : goal.returns-in-2
unfolding is_opening
returns-in-2 c = rw c.in-2.is

pub returns-in_default : goal.returns-in_default
unfolding is_opening
returns-in_default c = simp (ne_eqb _ _ c.in_default.in_default-own.rest.1, ne_eqb _ _ c.in_default.in_default-own.rest.0.1, ne_eqb _ _ c.in_default.in_default-own.rest.0.0.1)
