use borrow.Author.Tests.{lt-ltb, le-ltb, eq-eqb, ne_eqb}
use Rattle.rule_ceilings.specs.Ceilings as tops
use Rattle.rule_ceilings.proofs.amount.Goals as goal

pub returns-then-codes-gt-ITEMS_MOST : goal.returns-then-codes-gt-ITEMS_MOST
unfolding tops.amount_of
returns-then-codes-gt-ITEMS_MOST c = simp (lt-ltb _ _ c.if-codes-gt-ITEMS_MOST.true)

pub returns-then-which-eq0 : goal.returns-then-which-eq0
unfolding tops.amount_of
returns-then-which-eq0 c = simp (le-ltb _ _ c.if-codes-gt-ITEMS_MOST.false, eq-eqb c.args.which 0 c.if-which-eq0.true) (rw (c.numbers.ensures, c.fill_homes.ensures))

pub returns-else-which-eq0 : goal.returns-else-which-eq0
unfolding tops.amount_of
returns-else-which-eq0 c = simp (le-ltb _ _ c.if-codes-gt-ITEMS_MOST.false, ne_eqb c.args.which 0 c.if-which-eq0.false) (rw (c.total.ensures, c.fill_homes.ensures))
