use borrow.Author.Tests.{eq-eqb, ne_eqb}
use native.Mathlib.Omega.{arith}
use Rattle.link_places.proofs.Walks as laws
use Rattle.link_places.specs.Places.{next_from}
use Rattle.link_places.proofs.next_from.Goals as goal

pub returns-then-codes-k : goal.returns-then-codes-k
returns-then-codes-k c = laws.next_past c.args.codes.now c.args.k c.args.links.now (omega arith)

pub returns-then-codes-k-2 : goal.returns-then-codes-k-2
unfolding next_from
returns-then-codes-k-2 c = simp (eq-eqb _ _ c.if-codes-k-2.true) c.past_option.ensures

pub returns : goal.returns
unfolding next_from
returns c = simp (ne_eqb _ _ c.if-codes-k-2.false) c.place_from.ensures
