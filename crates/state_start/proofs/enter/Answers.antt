use Rattle.state_start.proofs.Laws.{entered_body, entered_variable, entered_other}
use Rattle.state_start.proofs.enter.Goals as goal

pub returns-in-227 : goal.returns-in-227
returns-in-227 c = entered_body c.args.t.now c.args.s.now c.args.p c.args.j c.code.ensures c.in-227.is c.process_at.ensures c.link.ensures.value c.put_count.ensures

pub returns-in-212 : goal.returns-in-212
returns-in-212 c = entered_variable c.args.t.now c.args.s.now c.args.p c.args.j c.code.ensures c.in-212.is c.declare.ensures

pub returns-in_default : goal.returns-in_default
returns-in_default c = entered_other c.args.t.now c.args.s.now c.args.p c.args.j c.code.ensures c.in_default.in_default-own.rest.0.1 c.in_default.in_default-own.rest.1
