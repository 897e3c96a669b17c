use Rattle.rule_ceilings.specs.Ceilings as tops
use borrow.Author.Tests.{lt-ltb, le-ltb}
use Rattle.rule_ceilings.proofs.passed.Goals as goal

pub returns-then-codes-gt-ITEMS_MOST : goal.returns-then-codes-gt-ITEMS_MOST
unfolding tops.passed
returns-then-codes-gt-ITEMS_MOST c = simp (lt-ltb _ _ c.if-codes-gt-ITEMS_MOST.true)

pub returns : goal.returns
unfolding tops.passed
returns c = simp (le-ltb _ _ c.if-codes-gt-ITEMS_MOST.false) (rw (c.any_passed.ensures, c.fill_homes.ensures))
