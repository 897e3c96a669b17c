use Rattle.table_layout.proofs.Reading as laws
use Rattle.table_layout.proofs.name_byte.Goals as goal

pub returns-then-k-name_length : goal.returns-then-k-name_length
returns-then-k-name_length c = laws.byte_in c.args.t.now c.args.i c.args.k c.name_length.ensures.value c.if-k-name_length.true c.arg.ensures.value c.pool_byte.ensures

pub returns-else-k-name_length : goal.returns-else-k-name_length
returns-else-k-name_length c = laws.byte_out c.args.t.now c.args.i c.args.k c.name_length.ensures.value c.if-k-name_length.false
