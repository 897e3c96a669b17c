use Rattle.base_ceilings.specs.Ceilings.{numbers_most}
use Rattle.step_take.proofs.Laws.{end_over, end_more, end_none}
use native.Mathlib.Omega.{arith}
use mathlib.Core.Path.{◌∙◌}
use Prim.Native.Nat.{◌-◌, ◌+◌}
use Rattle.step_take.proofs.end_of.Goals as goal

pub returns-then-code : goal.returns-then-code
returns-then-code c = end_over c.args.t.now (numbers_most - c.loop-n._n) c.loop-n.j c.code.ensures c.if-code.true ∙ c.loop-n.invariant

pub loop-n-preserved : goal.loop-n-preserved
loop-n-preserved c = end_more c.args.t.now (numbers_most - c.loop-n._n) (numbers_most - (c.loop-n._n + 1)) c.loop-n.j (omega arith) c.code.ensures c.if-code.false c.link-j.ensures.value ∙ c.loop-n.invariant

pub returns : goal.returns
returns c = end_none c.args.t.now (numbers_most - c.loop-n._n) c.loop-n.j (omega arith) ∙ c.loop-n.invariant
