use native.Mathlib.Omega.{arith}
use Rattle.base_pens.specs.Pen.{pen}
use Rattle.table_entries.specs.Sources.{entry_at}
use Rattle.table_entries.specs.Entry.{runs}
use Rattle.table_layout.proofs.Building as laws
use Rattle.table_layout.proofs.build.Goals as goal

pub shape_of-out : goal.shape_of-out
shape_of-out c = omega arith

pub returns : goal.returns
returns c = laws.built_of c.args.text.now c.args.starts.now c.args.ends.now c.args.codes.now c.args.toks.now c.args.links.now (pen c.args.out.now 0) c.least-n.ensures (laws.built (runs (entry_at c.args.text.now c.args.starts.now c.args.ends.now c.args.codes.now c.args.toks.now) 0 c.least-n.result) c.args.links.now (pen c.args.out.now 0) (laws.runs-count (entry_at c.args.text.now c.args.starts.now c.args.ends.now c.args.codes.now c.args.toks.now) c.least-n.result) c.count_numbers-k.ensures.value c.count_bytes.ensures.value c.put-a.ensures c.put-b.ensures c.put-c.ensures c.put-d.ensures c.put_items-e.ensures c.put_links-f.ensures c.put_numbers-g.ensures c.put_pool.ensures)
