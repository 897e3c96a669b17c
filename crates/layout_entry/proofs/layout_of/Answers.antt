use Rattle.layout_entry.proofs.Laws as own
use Rattle.write_texts.specs.Normal.{layout_of}
use native.Mathlib.Omega.{arith}
use Rattle.normal_entry.proofs.Laws as laws
use Rattle.layout_entry.proofs.layout_of.Goals as goal

pub returns-then-tables-lt-TABLES_ROOM : goal.returns-then-tables-lt-TABLES_ROOM
returns-then-tables-lt-TABLES_ROOM c = rw c.of_no_part.ensures (let all = laws.tables-short layout_of c.args.tables.now c.args.out.now (omega arith) in record { value = all.0; out_after = all.1 })

pub lay-requires : goal.lay-requires
lay-requires c = own.tables-room c.args.tables.now c.is_genuine.result _ c.is_genuine.ensures c.if-is_genuine.true c.written.ensures

pub returns-then-is_genuine : goal.returns-then-is_genuine
returns-then-is_genuine c = let all = laws.tables-written layout_of c.args.tables.now c.args.out.now c.is_genuine.result _ _ c.lay.result (omega arith) c.is_genuine.ensures c.if-is_genuine.true c.written.ensures c.lay.ensures.value c.lay.ensures.out_after in record { value = all.0; out_after = all.1 }

pub returns : goal.returns
returns c = rw c.of_no_part-2.ensures (let all = laws.tables_foreign layout_of c.args.tables.now c.args.out.now c.is_genuine.result (omega arith) c.is_genuine.ensures c.if-is_genuine.false in record { value = all.0; out_after = all.1 })
