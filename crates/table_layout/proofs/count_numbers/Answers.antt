use Prim.Native.Nat.{◌-◌, ◌+◌}
use native.Mathlib.Omega.{arith}
use mathlib.Core.Path.{◌∙◌}
use Rattle.table_entries.specs.Sources.{entry_at}
use Rattle.table_layout.proofs.Building as laws
use Rattle.table_layout.proofs.count_numbers.Goals as goal

pub loop-i-init : goal.loop-i-init
loop-i-init c = (omega arith, laws.count-start (entry_at c.args.text.now c.args.starts.now c.args.ends.now c.args.codes.now c.args.toks.now) c.args.n)

pub overflow_add-sum : goal.overflow_add-sum
overflow_add-sum c = omega (arith, c.one-sum.ensures.upper_bound, c.loop-i.invariant.0)

pub loop-i-preserved : goal.loop-i-preserved
loop-i-preserved c = (omega (arith, c.one-sum.ensures.upper_bound, c.loop-i.invariant.0), laws.count-more (entry_at c.args.text.now c.args.starts.now c.args.ends.now c.args.codes.now c.args.toks.now) c.loop-i.i c.loop-i.sum {k1 = c.args.n - (c.loop-i.i + 1)} (omega arith) (laws.code_at c.args.text.now c.args.starts.now c.args.ends.now c.args.codes.now c.args.toks.now c.loop-i.i c.byte_at.ensures) c.one-sum.ensures.value ∙ c.loop-i.invariant.1)

pub returns : goal.returns
returns c = record { value = laws.count_end (entry_at c.args.text.now c.args.starts.now c.args.ends.now c.args.codes.now c.args.toks.now) c.loop-i.i c.loop-i.sum (omega arith) ∙ c.loop-i.invariant.1; upper_bound = omega (arith, c.loop-i.invariant.0) }
