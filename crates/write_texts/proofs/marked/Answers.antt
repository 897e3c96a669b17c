use borrow.Author.Tests.{ne_eqb}
use Rattle.base_codes.specs.Codes.{c_end}
use Rattle.write_texts.proofs.marked.Goals as goal

pub returns-then-b : goal.returns-then-b
returns-then-b c = rw (c.if-c-eq-END.true, c.if-b.true)

pub returns-else-b : goal.returns-else-b
returns-else-b c = rw (c.if-c-eq-END.true, c.if-b.false)

pub returns-else-c-eq-END : goal.returns-else-c-eq-END
returns-else-c-eq-END c = rw (ne_eqb c.args.c c_end c.if-c-eq-END.false)
