use Rattle.step_take.proofs.Laws.{by_print, by_express, by_target, by_more, by_less, by_send, by_receive, by_assert, by_skip, by_goto, by_break, by_timeout, by_else, by_run, by_none}
use Rattle.step_take.proofs.take_by.Goals as goal

pub returns-in-72 : goal.returns-in-72
returns-in-72 c = by_print c.args.t.now c.args.p c.args.q c.args.m c.args.s.now c.code.ensures c.in-72.is c.print.ensures

pub returns-in-189 : goal.returns-in-189
returns-in-189 c = by_express c.args.t.now c.args.p c.args.q c.args.m c.args.s.now c.code.ensures c.in-189.is c.express.ensures

pub returns-in-190 : goal.returns-in-190
returns-in-190 c = by_target c.args.t.now c.args.p c.args.q c.args.m c.args.s.now c.code.ensures c.in-190.is c.target.ensures

pub returns-in-192 : goal.returns-in-192
returns-in-192 c = by_more c.args.t.now c.args.p c.args.q c.args.m c.args.s.now c.code.ensures c.in-192.is c.step_by.ensures

pub returns-in-193 : goal.returns-in-193
returns-in-193 c = by_less c.args.t.now c.args.p c.args.q c.args.m c.args.s.now c.code.ensures c.in-193.is c.step_by-in-193.ensures

pub returns-in-194 : goal.returns-in-194
returns-in-194 c = by_send c.args.t.now c.args.p c.args.q c.args.m c.args.s.now c.code.ensures c.in-194.is c.send.ensures

pub returns-in-195 : goal.returns-in-195
returns-in-195 c = by_receive c.args.t.now c.args.p c.args.q c.args.m c.args.s.now c.code.ensures c.in-195.is c.receive.ensures

pub returns-in-196 : goal.returns-in-196
returns-in-196 c = by_assert c.args.t.now c.args.p c.args.q c.args.m c.args.s.now c.code.ensures c.in-196.is c.assert_that.ensures

pub returns-in-197 : goal.returns-in-197
returns-in-197 c = by_skip c.args.t.now c.args.p c.args.q c.args.m c.args.s.now c.code.ensures c.in-197.is c.pass.ensures

pub returns-in-198 : goal.returns-in-198
returns-in-198 c = by_goto c.args.t.now c.args.p c.args.q c.args.m c.args.s.now c.code.ensures c.in-198.is c.pass-in-198.ensures

pub returns-in-199 : goal.returns-in-199
returns-in-199 c = by_break c.args.t.now c.args.p c.args.q c.args.m c.args.s.now c.code.ensures c.in-199.is c.pass-in-199.ensures

pub returns-in-200 : goal.returns-in-200
returns-in-200 c = by_timeout c.args.t.now c.args.p c.args.q c.args.m c.args.s.now c.code.ensures c.in-200.is c.pass-in-200.ensures

pub returns-in-201 : goal.returns-in-201
returns-in-201 c = by_else c.args.t.now c.args.p c.args.q c.args.m c.args.s.now c.code.ensures c.in-201.is c.pass-in-201.ensures

pub returns-in-202 : goal.returns-in-202
returns-in-202 c = by_run c.args.t.now c.args.p c.args.q c.args.m c.args.s.now c.code.ensures c.in-202.is c.run.ensures

pub returns-in_default : goal.returns-in_default
returns-in_default c = by_none c.args.t.now c.args.p c.args.q c.args.m c.args.s.now c.code.ensures c.in_default.in_default-own.rest.0.0.0.0.0.0.0.0.0.0.0.0.0.1 c.in_default.in_default-own.rest.0.0.0.0.0.0.0.0.0.0.0.0.1 c.in_default.in_default-own.rest.0.0.0.0.0.0.0.0.0.0.0.1 c.in_default.in_default-own.rest.0.0.0.0.0.0.0.0.0.0.1 c.in_default.in_default-own.rest.0.0.0.0.0.0.0.0.0.1 c.in_default.in_default-own.rest.0.0.0.0.0.0.0.0.1 c.in_default.in_default-own.rest.0.0.0.0.0.0.0.1 c.in_default.in_default-own.rest.0.0.0.0.0.0.1 c.in_default.in_default-own.rest.0.0.0.0.0.1 c.in_default.in_default-own.rest.0.0.0.0.1 c.in_default.in_default-own.rest.0.0.0.1 c.in_default.in_default-own.rest.0.0.1 c.in_default.in_default-own.rest.0.1 c.in_default.in_default-own.rest.1
