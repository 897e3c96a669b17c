use Rattle.show_answers.proofs.Laws as laws
use native.Mathlib.Omega.{arith}
use Rattle.show_answers.proofs.line_start.Goals as goal

pub loop-k-preserved : goal.loop-k-preserved
loop-k-preserved c = laws.start-next c.args.s.now c.loop-k.k (omega arith) c.loop-k.start c.loop-k.invariant.1 _ c.loop-k.invariant.0 c.start_behind-start.ensures

pub returns : goal.returns
returns c = (omega (arith, c.loop-k.invariant.0), laws.start_end c.args.s.now c.loop-k.k c.loop-k.start (omega arith) c.loop-k.invariant.1)
