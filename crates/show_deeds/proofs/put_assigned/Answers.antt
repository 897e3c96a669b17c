use Rattle.show_deeds.proofs.Laws as laws
use Rattle.show_deeds.proofs.put_assigned.Goals as goal

pub returns-then-code : goal.returns-then-code
returns-then-code c = laws.assigned-ran c.args.t.now c.args.before.now c.args.after.now c.args.p c.args.q c.args.m _ c.put_stored-a.ensures c.link-e.ensures.value c.code.ensures c.if-code.true c.put_started.ensures

pub returns : goal.returns
returns c = laws.assigned-only c.args.t.now c.args.before.now c.args.after.now c.args.p c.args.q c.args.m _ c.put_stored-a.ensures c.link-e.ensures.value c.code.ensures c.if-code.false
