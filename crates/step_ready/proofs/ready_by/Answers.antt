use Rattle.step_ready.proofs.Laws.{ready_express, ready_send, ready_receive, ready_timeout, ready-run, ready_other}
use Rattle.step_ready.proofs.ready_by.Goals as goal

pub returns-in-189 : goal.returns-in-189
returns-in-189 c = ready_express c.args.t.now c.args.s.now c.args.p c.args.late c.args.q c.args.m c.code-c.ensures c.in-189.is c.eval.ensures c.passes.ensures

pub returns-in-194 : goal.returns-in-194
returns-in-194 c = ready_send c.args.t.now c.args.s.now c.args.p c.args.late c.args.q c.args.m c.code-c.ensures c.in-194.is c.message.ensures c.can_send.ensures

pub returns-in-195 : goal.returns-in-195
returns-in-195 c = ready_receive c.args.t.now c.args.s.now c.args.p c.args.late c.args.q c.args.m c.code-c.ensures c.in-195.is c.message-in-195.ensures c.can_receive.ensures

pub returns-in-200 : goal.returns-in-200
returns-in-200 c = ready_timeout c.args.t.now c.args.s.now c.args.p c.args.late c.args.q c.args.m c.code-c.ensures c.in-200.is

pub returns-in-202 : goal.returns-in-202
returns-in-202 c = ready-run c.args.t.now c.args.s.now c.args.p c.args.late c.args.q c.args.m c.code-c.ensures c.in-202.is c.link.ensures.value c.has_room.ensures

pub returns-in_default : goal.returns-in_default
returns-in_default c = ready_other c.args.t.now c.args.s.now c.args.p c.args.late c.args.q c.args.m c.code-c.ensures c.in_default.in_default-own.rest.0.0.0.0.1 c.in_default.in_default-own.rest.0.0.0.1 c.in_default.in_default-own.rest.0.0.1 c.in_default.in_default-own.rest.0.1 c.in_default.in_default-own.rest.1 c.is_always.ensures
