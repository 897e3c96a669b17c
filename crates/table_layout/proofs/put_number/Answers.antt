use Rattle.base_pens.specs.Pen.{pen}
use Rattle.table_entries.specs.Sources.{entry_at}
use Rattle.table_layout.proofs.Building as laws
use Rattle.table_layout.proofs.put_number.Goals as goal

pub returns-then-byte_at-eq-NUMBER : goal.returns-then-byte_at-eq-NUMBER
returns-then-byte_at-eq-NUMBER c = laws.number-yes (entry_at c.args.text.now c.args.starts.now c.args.ends.now c.args.codes.now c.args.toks.now c.args.i) (pen c.args.out.now c.args.p) (laws.code_at c.args.text.now c.args.starts.now c.args.ends.now c.args.codes.now c.args.toks.now c.args.i c.byte_at.ensures) c.if-byte_at-eq-NUMBER.true c.value_at.ensures c.put.ensures

pub returns-else-byte_at-eq-NUMBER : goal.returns-else-byte_at-eq-NUMBER
returns-else-byte_at-eq-NUMBER c = laws.number_no (entry_at c.args.text.now c.args.starts.now c.args.ends.now c.args.codes.now c.args.toks.now c.args.i) (pen c.args.out.now c.args.p) (laws.code_at c.args.text.now c.args.starts.now c.args.ends.now c.args.codes.now c.args.toks.now c.args.i c.byte_at.ensures) c.if-byte_at-eq-NUMBER.false
