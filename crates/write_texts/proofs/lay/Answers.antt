use mathlib.Core.Path.{refl}
use native.Mathlib.Omega.{arith}
use Rattle.write_texts.proofs.Stack as laws
use Rattle.write_texts.proofs.lay.Goals as goal

pub loop-k-init : goal.loop-k-init
loop-k-init c = laws.lay_start c.args.stack.now c.args.sp c.args.r c.args.i

pub cell-requires : goal.cell-requires
cell-requires c = (c.requires.0, c.requires.3, omega (arith, c.loop-k.invariant.most))

pub push-p-requires : goal.push-p-requires
push-p-requires c = (omega (arith, c.loop-k.invariant.low, c.loop-k.invariant.most), omega (arith, c.loop-k.invariant.high, c.loop-k.invariant.size))

pub loop-k-preserved : goal.loop-k-preserved
loop-k-preserved c = laws.lay_more c.args.stack.now c.loop-k.stack c.args.sp c.args.r c.args.i c.loop-k.p c.loop-k.k _ _ _ _ _ refl c.loop-k-test.true c.loop-k.invariant c.cell.ensures.value c.said.ensures c.push-p.ensures

pub shape_of-stack : goal.shape_of-stack
shape_of-stack c = c.loop-k.invariant.size

pub returns : goal.returns
returns c = laws.lay_end c.args.stack.now c.loop-k.stack c.args.sp c.args.r c.args.i c.loop-k.p c.loop-k.k c.loop-k-test.false c.loop-k.invariant
