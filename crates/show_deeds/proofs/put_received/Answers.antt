use Rattle.show_deeds.proofs.Laws as laws
use Rattle.show_deeds.proofs.put_received.Goals as goal

pub returns-in-Ok : goal.returns-in-Ok
returns-in-Ok c = laws.received-put c.args.t.now c.args.before.now c.args.after.now c.args.p c.args.q c.args.m _ _ c.message-x.ensures c.in-Ok.is c.put_all-a.ensures c.put_passed-b.ensures c.put_targets.ensures

pub returns-in-Err : goal.returns-in-Err
returns-in-Err c = laws.received_none c.args.t.now c.args.before.now c.args.after.now c.args.p c.args.q c.args.m _ c.message-x.ensures c.in-Err.is
