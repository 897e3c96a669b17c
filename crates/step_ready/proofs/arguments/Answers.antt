use Rattle.step_ready.proofs.Laws.{arguments_end, arguments-all, arguments_turn}
use mathlib.Core.Path.{◌≡◌, sym, ◌∙◌}
use native.Mathlib.Omega.{arith}
use borrow.Author.Rules.{rules}
use Rattle.step_ready.proofs.arguments.Goals as goal

pub loop-n-init : goal.loop-n-init
loop-n-init c = search rules

pub returns-then-code : goal.returns-then-code
returns-then-code c = arguments-all c.args.t.now c.loop-n.n c.loop-n.j _ (omega arith) c.loop-n.invariant c.code.ensures c.if-code.true

pub loop-n-preserved : goal.loop-n-preserved
loop-n-preserved c = arguments_turn c.args.t.now c.loop-n.n c.loop-n.j _ (omega arith) c.loop-n.invariant c.code.ensures (omega arith) c.if-code.false c.link-j.ensures.value

pub returns : goal.returns
returns c = let e : c.loop-n.n ≡ 5 = omega arith in sym e ∙ arguments_end c.args.t.now c.loop-n.n c.loop-n.j _ (omega arith) c.loop-n.invariant (omega arith)
