use borrow.Author.Tests.{ne_eqb}
use Rattle.write_texts.proofs.said.Goals as goal

pub returns-then-v-eq99 : goal.returns-then-v-eq99
returns-then-v-eq99 c = rw c.if-v-eq99.true

pub returns-else-v-eq99 : goal.returns-else-v-eq99
returns-else-v-eq99 c = rw (ne_eqb c.args.v 99 c.if-v-eq99.false)
