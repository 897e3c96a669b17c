use Rattle.show_deeds.proofs.Laws as laws
use Rattle.show_deeds.proofs.put_deeds.Goals as goal

pub returns-in-190 : goal.returns-in-190
returns-in-190 c = laws.as_target c.args.t.now c.args.before.now c.args.after.now c.args.p c.args.q c.mark-m.ensures.value c.code.ensures _ c.in-190.is c.put_assigned.ensures

pub returns-in-192 : goal.returns-in-192
returns-in-192 c = laws.as_increment c.args.t.now c.args.before.now c.args.after.now c.args.p c.args.q c.mark-m.ensures.value c.code.ensures _ c.in-192.is c.put_stored.ensures

pub returns-in-193 : goal.returns-in-193
returns-in-193 c = laws.as_decrement c.args.t.now c.args.before.now c.args.after.now c.args.p c.args.q c.mark-m.ensures.value c.code.ensures _ c.in-193.is c.put_stored-in-193.ensures

pub returns-in-194 : goal.returns-in-194
returns-in-194 c = laws.as_send c.args.t.now c.args.before.now c.args.after.now c.args.p c.args.q c.mark-m.ensures.value c.code.ensures _ c.in-194.is c.put_sent.ensures

pub returns-in-195 : goal.returns-in-195
returns-in-195 c = laws.as_receive c.args.t.now c.args.before.now c.args.after.now c.args.p c.args.q c.mark-m.ensures.value c.code.ensures _ c.in-195.is c.put_received.ensures

pub returns-in-202 : goal.returns-in-202
returns-in-202 c = laws.as_run c.args.t.now c.args.before.now c.args.after.now c.args.p c.args.q c.mark-m.ensures.value c.code.ensures _ c.in-202.is c.put_started.ensures

pub returns-in_default : goal.returns-in_default
returns-in_default c = laws.as_other c.args.t.now c.args.before.now c.args.after.now c.args.p c.args.q _ c.mark-m.ensures.value c.code.ensures c.in_default.in_default-own.rest.0.0.0.0.0.1 c.in_default.in_default-own.rest.0.0.0.0.1 c.in_default.in_default-own.rest.0.0.0.1 c.in_default.in_default-own.rest.0.0.1 c.in_default.in_default-own.rest.0.1 c.in_default.in_default-own.rest.1
