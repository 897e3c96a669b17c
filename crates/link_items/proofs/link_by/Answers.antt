use borrow.Author.Tests.{ne_eqb}
use Rattle.link_items.specs.Links.{link_by}
use Rattle.link_items.proofs.link_by.Goals as goal

pub returns-in-1 : goal.returns-in-1
unfolding link_by
returns-in-1 c = rw (c.in-1.is, ← c.word_at.ensures.value) c.meant.ensures

pub returns-in-2 : goal.returns-in-2
unfolding link_by
returns-in-2 c = rw (c.in-2.is, ← c.minus.ensures) c.meant-in-2.ensures

pub returns-in-3 : goal.returns-in-3
unfolding link_by
returns-in-3 c = rw (c.in-3.is, ← c.minus-in-3.ensures) (c.global.ensures c.requires.2)

pub returns-in-4 : goal.returns-in-4
unfolding link_by
returns-in-4 c = rw (c.in-4.is, ← c.minus-in-4.ensures) c.word_at-in-4.ensures.value

pub returns-in-5 : goal.returns-in-5
unfolding link_by
returns-in-5 c = rw c.in-5.is c.mark_from.ensures

pub returns-in-6 : goal.returns-in-6
unfolding link_by
returns-in-6 c = rw c.in-6.is c.close_of.ensures

pub returns-in-7 : goal.returns-in-7
unfolding link_by
returns-in-7 c = rw c.in-7.is c.next_from.ensures

pub returns-in-8 : goal.returns-in-8
unfolding link_by
returns-in-8 c = rw (c.in-8.is, ← c.label_of.ensures) c.place_from.ensures

pub returns-in-9 : goal.returns-in-9
unfolding link_by
returns-in-9 c = rw c.in-9.is c.past_loop.ensures

pub returns-in-10 : goal.returns-in-10
unfolding link_by
returns-in-10 c = rw c.in-10.is c.close_of-in-10.ensures

pub returns-in-11 : goal.returns-in-11
unfolding link_by
returns-in-11 c = rw c.in-11.is c.close_of-in-11.ensures

pub returns-in-12 : goal.returns-in-12
unfolding link_by
returns-in-12 c = rw c.in-12.is c.close_of-in-12.ensures

pub returns-in-13 : goal.returns-in-13
unfolding link_by
returns-in-13 c = rw c.in-13.is c.place_from-in-13.ensures

pub returns-in-14 : goal.returns-in-14
unfolding link_by
returns-in-14 c = rw c.in-14.is c.slot_at.ensures

pub returns-in-15 : goal.returns-in-15
unfolding link_by
returns-in-15 c = rw c.in-15.is c.count.ensures

pub returns-in_default : goal.returns-in_default
unfolding link_by
returns-in_default c = simp (ne_eqb _ _ c.in_default.in_default-own.rest.1, ne_eqb _ _ c.in_default.in_default-own.rest.0.1, ne_eqb _ _ c.in_default.in_default-own.rest.0.0.1, ne_eqb _ _ c.in_default.in_default-own.rest.0.0.0.1, ne_eqb _ _ c.in_default.in_default-own.rest.0.0.0.0.1, ne_eqb _ _ c.in_default.in_default-own.rest.0.0.0.0.0.1, ne_eqb _ _ c.in_default.in_default-own.rest.0.0.0.0.0.0.1, ne_eqb _ _ c.in_default.in_default-own.rest.0.0.0.0.0.0.0.1, ne_eqb _ _ c.in_default.in_default-own.rest.0.0.0.0.0.0.0.0.1, ne_eqb _ _ c.in_default.in_default-own.rest.0.0.0.0.0.0.0.0.0.1, ne_eqb _ _ c.in_default.in_default-own.rest.0.0.0.0.0.0.0.0.0.0.1, ne_eqb _ _ c.in_default.in_default-own.rest.0.0.0.0.0.0.0.0.0.0.0.1, ne_eqb _ _ c.in_default.in_default-own.rest.0.0.0.0.0.0.0.0.0.0.0.0.1, ne_eqb _ _ c.in_default.in_default-own.rest.0.0.0.0.0.0.0.0.0.0.0.0.0.1, ne_eqb _ _ c.in_default.in_default-own.rest.0.0.0.0.0.0.0.0.0.0.0.0.0.0.1)
