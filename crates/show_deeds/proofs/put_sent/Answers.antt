use Rattle.show_deeds.proofs.Laws as laws
use Rattle.show_deeds.proofs.put_sent.Goals as goal

pub returns-in-Ok : goal.returns-in-Ok
returns-in-Ok c = laws.sent-put c.args.t.now c.args.before.now c.args.after.now c.args.p c.args.q c.args.m _ _ c.message-x.ensures c.in-Ok.is c.put_all-a.ensures c.waiting_of.ensures.value c.put_passed.ensures

pub returns-in-Err : goal.returns-in-Err
returns-in-Err c = laws.sent-none c.args.t.now c.args.before.now c.args.after.now c.args.p c.args.q c.args.m _ c.message-x.ensures c.in-Err.is
