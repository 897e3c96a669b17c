use Prim.Native.Nat.{◌-◌, ◌+◌}
use native.Mathlib.Omega.{arith}
use mathlib.Core.Path.{sym, ◌∙◌}
use Rattle.base_pens.specs.Pen.{pen}
use Rattle.table_entries.specs.Sources.{entry_at}
use Rattle.table_layout.proofs.Building as laws
use Rattle.table_layout.proofs.put_numbers.Goals as goal

pub loop-i-init : goal.loop-i-init
loop-i-init c = laws.numbers-start (entry_at c.args.text.now c.args.starts.now c.args.ends.now c.args.codes.now c.args.toks.now) c.args.n (pen c.args.out.now c.args.p)

pub loop-i-preserved : goal.loop-i-preserved
loop-i-preserved c = sym (laws.numbers_more (entry_at c.args.text.now c.args.starts.now c.args.ends.now c.args.codes.now c.args.toks.now) c.loop-i.i {k1 = c.args.n - (c.loop-i.i + 1)} (pen c.loop-i.out c.loop-i.q) (omega arith) c.put_number-q.ensures) ∙ c.loop-i.invariant

pub returns : goal.returns
returns c = sym (laws.numbers_end (entry_at c.args.text.now c.args.starts.now c.args.ends.now c.args.codes.now c.args.toks.now) c.loop-i.i (omega arith)) ∙ c.loop-i.invariant
