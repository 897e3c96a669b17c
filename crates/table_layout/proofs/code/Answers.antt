use Rattle.table_layout.proofs.Reading.{code_in, code_out}
use Rattle.table_layout.proofs.code.Goals as goal

pub returns-then-i-items : goal.returns-then-i-items
returns-then-i-items c = code_in c.args.t.now c.args.i c.items.ensures.value c.if-i-items.true c.word_on.ensures.value

pub returns-else-i-items : goal.returns-else-i-items
returns-else-i-items c = code_out c.args.t.now c.args.i c.items.ensures.value c.if-i-items.false
