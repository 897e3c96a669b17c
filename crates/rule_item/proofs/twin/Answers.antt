use Rattle.rule_item.proofs.Twins as twins
use Prim.Native.Nat.{◌-◌}
use mathlib.Core.Path.{◌∙◌}
use native.Mathlib.Omega.{arith}
use Rattle.rule_item.proofs.twin.Goals as goal

pub returns-then-twin_at : goal.returns-then-twin_at
returns-then-twin_at c = twins.twin-here c.args.codes.now c.loop-k.k (c.loop-k.k - 1) c.loop-k.d (omega arith) c.twin_at.ensures c.if-twin_at.true ∙ c.loop-k.invariant.1

pub loop-k-preserved : goal.loop-k-preserved
loop-k-preserved c = (omega (arith, c.depth_on-d.ensures.upper_bound), twins.twin-more c.args.codes.now c.loop-k.k (c.loop-k.k - 1) c.loop-k.d (omega arith) c.twin_at.ensures c.if-twin_at.false c.depth_on-d.ensures.value ∙ c.loop-k.invariant.1)

pub returns : goal.returns
returns c = twins.twin_end c.args.codes.now c.loop-k.k c.loop-k.d (omega arith) ∙ c.loop-k.invariant.1
