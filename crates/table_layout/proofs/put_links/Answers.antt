use Prim.Native.Nat.{◌-◌, ◌+◌}
use native.Mathlib.Omega.{arith}
use mathlib.Core.Path.{sym, ◌∙◌}
use Rattle.base_pens.specs.Pen.{pen}
use Rattle.table_layout.proofs.Building as laws
use Rattle.table_layout.proofs.put_links.Goals as goal

pub loop-i-init : goal.loop-i-init
loop-i-init c = laws.linked-start c.args.links.now c.args.n (pen c.args.out.now c.args.p)

pub overflow_cast-word_at : goal.overflow_cast-word_at
overflow_cast-word_at c = omega (arith, c.word_at.ensures.upper_bound)

pub loop-i-preserved : goal.loop-i-preserved
loop-i-preserved c = sym (laws.linked-more c.args.links.now c.loop-i.i {k1 = c.args.n - (c.loop-i.i + 1)} (pen c.loop-i.out c.loop-i.q) (omega arith) c.word_at.ensures.value c.put-q.ensures) ∙ c.loop-i.invariant

pub returns : goal.returns
returns c = sym (laws.linked_end c.args.links.now c.loop-i.i (omega arith)) ∙ c.loop-i.invariant
