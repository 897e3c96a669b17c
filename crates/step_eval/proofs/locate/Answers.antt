use Rattle.step_eval.proofs.Laws.{locate_element, locate_plain}
use Rattle.step_eval.proofs.locate.Goals as goal

pub returns-then-code : goal.returns-then-code
returns-then-code c = locate_element c.args.t.now c.args.s.now c.args.p c.args.from c.args.to c.minus_one-j.ensures c.code.ensures c.variable.ensures c.if-code.true c.eval.ensures c.element.ensures

pub returns-else-code : goal.returns-else-code
returns-else-code c = locate_plain c.args.t.now c.args.s.now c.args.p c.args.from c.args.to c.minus_one-j.ensures c.code.ensures c.variable-else-code.ensures c.if-code.false c.slot.ensures
