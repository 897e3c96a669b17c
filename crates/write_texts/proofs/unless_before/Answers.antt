use borrow.Author.Tests.{lt-ltb, le-ltb}
use Rattle.write_texts.proofs.unless_before.Goals as goal

pub returns-then-i-from : goal.returns-then-i-from
returns-then-i-from c = rw (lt-ltb c.args.i c.args.from c.if-i-from.true)

pub returns-else-i-from : goal.returns-else-i-from
returns-else-i-from c = rw (le-ltb c.args.i c.args.from c.if-i-from.false)
