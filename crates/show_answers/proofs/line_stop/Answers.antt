use Rattle.show_answers.proofs.Laws as laws
use native.Mathlib.Omega.{arith}
use mathlib.Core.Path.{◌≡◌, ◌∙◌, sym}
use lib.ListN.{length}
use Rattle.show_answers.proofs.line_stop.Goals as goal

pub returns-then-b-eq10 : goal.returns-then-b-eq10
returns-then-b-eq10 c = (omega arith, laws.stop_there c.args.s.now c.loop-k.k _ (omega arith) c.if-b-eq10.true c.loop-k.invariant)

pub loop-k-preserved : goal.loop-k-preserved
loop-k-preserved c = laws.stop_later c.args.s.now c.loop-k.k _ (omega arith) c.if-b-eq10.false c.loop-k.invariant

pub returns : goal.returns
returns c = (omega arith, let q : c.loop-k.k ≡ length c.args.s.now = omega arith in sym q ∙ laws.stop_end c.args.s.now c.loop-k.k _ (omega arith) c.loop-k.invariant)
