use borrow.Author.Tests.{lt-ltb, le-ltb}
use Rattle.rule_search.specs.Chain.{head_of}
use Rattle.rule_search.proofs.head.Goals as goal

pub returns-then-w-lt-ITEMS_MOST : goal.returns-then-w-lt-ITEMS_MOST
unfolding head_of
returns-then-w-lt-ITEMS_MOST c = simp (lt-ltb _ _ c.if-w-lt-ITEMS_MOST.true) c.word_at.ensures.value

pub returns-else-w-lt-ITEMS_MOST : goal.returns-else-w-lt-ITEMS_MOST
unfolding head_of
returns-else-w-lt-ITEMS_MOST c = simp (le-ltb _ _ c.if-w-lt-ITEMS_MOST.false)
