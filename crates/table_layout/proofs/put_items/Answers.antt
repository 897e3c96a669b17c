use Prim.Native.Nat.{◌-◌, ◌+◌}
use native.Mathlib.Omega.{arith}
use mathlib.Core.Path.{sym, ◌∙◌}
use Rattle.base_pens.specs.Pen.{pen}
use Rattle.table_entries.specs.Sources.{entry_at}
use Rattle.table_layout.proofs.Building as laws
use Rattle.table_layout.proofs.put_items.Goals as goal

pub loop-i-init : goal.loop-i-init
loop-i-init c = (omega arith, omega arith, laws.items-start (entry_at c.args.text.now c.args.starts.now c.args.ends.now c.args.codes.now c.args.toks.now) c.args.n (pen c.args.out.now c.args.p))

pub item_word-requires : goal.item_word-requires
item_word-requires c = (omega (arith, c.size_at-size.ensures.upper_bound), omega (arith, c.loop-i.invariant.1))

pub overflow_add-o : goal.overflow_add-o
overflow_add-o c = omega (arith, c.size_at-size.ensures.upper_bound, c.loop-i.invariant.0)

pub overflow_add-k : goal.overflow_add-k
overflow_add-k c = omega (arith, c.one-k.ensures.upper_bound, c.loop-i.invariant.1)

pub loop-i-preserved : goal.loop-i-preserved
loop-i-preserved c = (omega (arith, c.size_at-size.ensures.upper_bound, c.loop-i.invariant.0), omega (arith, c.one-k.ensures.upper_bound, c.loop-i.invariant.1), sym (laws.items_more (entry_at c.args.text.now c.args.starts.now c.args.ends.now c.args.codes.now c.args.toks.now) c.loop-i.i c.loop-i.o c.loop-i.k {k1 = c.args.n - (c.loop-i.i + 1)} (pen c.loop-i.out c.loop-i.q) (omega arith) (laws.code_at c.args.text.now c.args.starts.now c.args.ends.now c.args.codes.now c.args.toks.now c.loop-i.i c.byte_at-c.ensures) c.size_at-size.ensures.value c.item_word.ensures c.one-k.ensures.value c.put-q.ensures) ∙ c.loop-i.invariant.2)

pub returns : goal.returns
returns c = sym (laws.items_end (entry_at c.args.text.now c.args.starts.now c.args.ends.now c.args.codes.now c.args.toks.now) c.loop-i.i c.loop-i.o c.loop-i.k (omega arith)) ∙ c.loop-i.invariant.2
