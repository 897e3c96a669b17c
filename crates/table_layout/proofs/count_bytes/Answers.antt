use Prim.Native.Nat.{◌-◌, ◌+◌}
use native.Mathlib.Omega.{arith}
use mathlib.Core.Path.{◌∙◌}
use Rattle.table_entries.specs.Sources.{entry_at}
use Rattle.table_layout.proofs.Building as laws
use Rattle.table_layout.proofs.count_bytes.Goals as goal

pub loop-i-init : goal.loop-i-init
loop-i-init c = (omega arith, laws.bytes-start (entry_at c.args.text.now c.args.starts.now c.args.ends.now c.args.codes.now c.args.toks.now) c.args.n)

pub overflow_add-sum : goal.overflow_add-sum
overflow_add-sum c = omega (arith, c.size_at-sum.ensures.upper_bound, c.loop-i.invariant.0)

pub loop-i-preserved : goal.loop-i-preserved
loop-i-preserved c = (omega (arith, c.size_at-sum.ensures.upper_bound, c.loop-i.invariant.0), laws.bytes-more (entry_at c.args.text.now c.args.starts.now c.args.ends.now c.args.codes.now c.args.toks.now) c.loop-i.i c.loop-i.sum {k1 = c.args.n - (c.loop-i.i + 1)} (omega arith) c.size_at-sum.ensures.value ∙ c.loop-i.invariant.1)

pub returns : goal.returns
returns c = record { value = laws.bytes_end (entry_at c.args.text.now c.args.starts.now c.args.ends.now c.args.codes.now c.args.toks.now) c.loop-i.i c.loop-i.sum (omega arith) ∙ c.loop-i.invariant.1; upper_bound = omega (arith, c.loop-i.invariant.0) }
