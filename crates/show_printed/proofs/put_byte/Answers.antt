use borrow.Author.Tests.{ne_eqb}
use Rattle.show_printed.proofs.Laws as laws
use Rattle.show_printed.proofs.put_byte.Goals as goal

pub returns-then-b-eq10 : goal.returns-then-b-eq10
returns-then-b-eq10 c = laws.byte-ends _ _ _ _ _ c.put_margin-q.ensures c.if-b-eq10.true c.put.ensures

pub returns : goal.returns
returns c = laws.byte-shown _ _ _ _ _ c.put_margin-q.ensures (ne_eqb _ _ c.if-b-eq10.false) c.put_escaped.ensures
