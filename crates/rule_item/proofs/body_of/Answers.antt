use Rattle.rule_item.specs.Rules as rules
use borrow.Author.Tests.{lt-ltb, le-ltb}
use Rattle.rule_item.proofs.body_of.Goals as goal

pub returns-then-g-codes : goal.returns-then-g-codes
unfolding rules.body_of
returns-then-g-codes c = simp (lt-ltb _ _ c.if-g-codes.true)

pub returns-else-g-codes : goal.returns-else-g-codes
unfolding rules.body_of
returns-else-g-codes c = simp (le-ltb _ _ c.if-g-codes.false)
