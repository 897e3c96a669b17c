use Rattle.show_deeds.proofs.Laws as laws
use Rattle.show_deeds.proofs.put_stored.Goals as goal

pub returns-in-Ok : goal.returns-in-Ok
returns-in-Ok c = laws.stored_at_lem c.args.t.now c.args.before.now c.args.after.now c.args.p c.args.from c.args.m _ _ c.locate-x.ensures c.in-Ok.is c.put_store.ensures

pub returns-in-Err : goal.returns-in-Err
returns-in-Err c = laws.stored_astray c.args.t.now c.args.before.now c.args.after.now c.args.p c.args.from c.args.m _ c.locate-x.ensures c.in-Err.is
