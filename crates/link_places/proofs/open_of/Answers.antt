use native.Mathlib.Omega.{arith}
use mathlib.Core.Path.{◌∙◌}
use Prim.Native.Nat.{◌-◌}
use Rattle.link_places.proofs.Walks as laws
use Rattle.link_places.proofs.open_of.Goals as goal

pub returns-then-both : goal.returns-then-both
returns-then-both c = laws.open_here c.args.codes.now c.loop-i.i (c.loop-i.i - 1) c.loop-i.d (omega arith) c.byte_at-c.ensures c.is_opening.ensures c.both.ensures c.if-both.true ∙ c.loop-i.invariant.1

pub loop-i-preserved : goal.loop-i-preserved
loop-i-preserved c = (omega (arith, c.shallower-d.ensures.upper_bound), laws.open_more c.args.codes.now c.loop-i.i (c.loop-i.i - 1) c.loop-i.d (omega arith) c.byte_at-c.ensures c.is_opening.ensures c.both.ensures c.if-both.false c.shallower-d.ensures.value ∙ c.loop-i.invariant.1)

pub returns : goal.returns
returns c = laws.open_end c.args.codes.now c.loop-i.i c.loop-i.d (omega arith) ∙ c.loop-i.invariant.1
