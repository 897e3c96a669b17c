use Rattle.step_take.proofs.Laws.{parameter_here, parameter_other}
use Rattle.step_take.proofs.set_parameter.Goals as goal

pub returns-then-code : goal.returns-then-code
returns-then-code c = parameter_here c.args.t.now c.args.p c.args.values.now c.args.j c.args.s.now c.code.ensures c.if-code.true c.link-l.ensures.value c.type_of.ensures c.cell.type_inv c.cell.ensures c.cast-v.ensures c.cast-v.type_inv c.slot.ensures c.put.ensures

pub returns-else-code : goal.returns-else-code
returns-else-code c = parameter_other c.args.t.now c.args.p c.args.values.now c.args.j c.args.s.now c.code.ensures c.if-code.false
