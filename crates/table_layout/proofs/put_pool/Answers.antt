use Prim.Native.Nat.{◌-◌, ◌+◌}
use native.Mathlib.Omega.{arith}
use mathlib.Core.Path.{sym, ◌∙◌}
use Rattle.base_pens.specs.Pack.{well}
use Rattle.base_pens.specs.Pen.{pen}
use Rattle.table_entries.specs.Sources.{entry_at}
use Rattle.table_entries.specs.Entry.{runs}
use Rattle.table_layout.proofs.Building as laws
use Rattle.table_layout.proofs.put_pool.Goals as goal

pub loop-i-init : goal.loop-i-init
loop-i-init c = laws.pool-start (entry_at c.args.text.now c.args.starts.now c.args.ends.now c.args.codes.now c.args.toks.now) c.args.n (well (pen c.args.out.now c.args.p) 0 0 0 0)

pub loop-i-preserved : goal.loop-i-preserved
loop-i-preserved c = sym (laws.pool-more (entry_at c.args.text.now c.args.starts.now c.args.ends.now c.args.codes.now c.args.toks.now) c.loop-i.i {k1 = c.args.n - (c.loop-i.i + 1)} (well (pen c.loop-i.out c.loop-i.w.at) c.loop-i.w.held c.loop-i.w.a c.loop-i.w.b c.loop-i.w.c) (omega arith) c.pour_at-w.ensures) ∙ c.loop-i.invariant

pub returns : goal.returns
returns c = laws.pool-put (runs (entry_at c.args.text.now c.args.starts.now c.args.ends.now c.args.codes.now c.args.toks.now) 0 c.args.n) (pen c.args.out.now c.args.p) (sym (laws.pool_end (entry_at c.args.text.now c.args.starts.now c.args.ends.now c.args.codes.now c.args.toks.now) c.loop-i.i (omega arith)) ∙ c.loop-i.invariant) c.settle.ensures
