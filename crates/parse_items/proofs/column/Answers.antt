use Rattle.parse_machine.specs.Machine.{column}
use borrow.Author.Tests.{lt-ltb, le-ltb}
use Rattle.parse_items.proofs.column.Goals as goal

pub returns-then-pos-kinds : goal.returns-then-pos-kinds
unfolding column
returns-then-pos-kinds c = simp (lt-ltb _ _ c.if-pos-kinds.true) c.clip.ensures

pub returns-else-pos-kinds : goal.returns-else-pos-kinds
unfolding column
returns-else-pos-kinds c = simp (le-ltb _ _ c.if-pos-kinds.false)
