use native.Mathlib.Omega.{arith}
use mathlib.Core.Path.{sym, ◌∙◌}
use Rattle.base_pens.specs.Pen.{pen}
use Rattle.base_pens.specs.Pack as pack
use Rattle.base_pens.proofs.Pack as laws
use Rattle.base_pens.proofs.pour.Goals as goal

pub loop-b-preserved : goal.loop-b-preserved
loop-b-preserved c = sym (laws.pour-more c.args.s.now c.loop-b.b-index (pack.well (pen c.loop-b.out c.loop-b.w.at) c.loop-b.w.held c.loop-b.w.a c.loop-b.w.b c.loop-b.w.c) (omega arith) c.drip-w.ensures) ∙ c.loop-b.invariant

pub returns : goal.returns
returns c = sym (laws.pour_end c.args.s.now c.loop-b.b-index (omega arith)) ∙ c.loop-b.invariant
