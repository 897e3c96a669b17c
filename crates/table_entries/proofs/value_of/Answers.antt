use Rattle.table_entries.proofs.Sources as laws
use Rattle.table_entries.proofs.value_of.Goals as goal

pub returns-then-c-eq-NUMBER : goal.returns-then-c-eq-NUMBER
returns-then-c-eq-NUMBER c = laws.value_some c.args.text.now c.args.c c.args.from c.args.to c.if-c-eq-NUMBER.true c.part.ensures c.value.ensures

pub returns-else-c-eq-NUMBER : goal.returns-else-c-eq-NUMBER
returns-else-c-eq-NUMBER c = laws.value_none c.args.text.now c.args.c c.args.from c.args.to c.if-c-eq-NUMBER.false
