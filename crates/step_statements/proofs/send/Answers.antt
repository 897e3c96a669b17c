use Rattle.step_statements.proofs.Laws.{send_done, send_fault, send_unmade}
use Rattle.step_statements.proofs.send.Goals as goal

pub returns-in-Ok-g : goal.returns-in-Ok-g
returns-in-Ok-g c = send_done c.args.t.now c.args.p c.args.q c.args.m c.args.s.now c.message-r.ensures c.in-Ok.is c.gather-g.ensures.value c.in-Ok-g.is c.gather-g.ensures.values_after c.waiting_of-w.ensures.value c.put.ensures c.link.ensures.value c.move_to.ensures

pub returns-in-Err-g : goal.returns-in-Err-g
returns-in-Err-g c = send_fault c.args.t.now c.args.p c.args.q c.args.m c.args.s.now c.message-r.ensures c.in-Ok.is c.gather-g.ensures.value c.in-Err-g.is

pub returns-in-Err : goal.returns-in-Err
returns-in-Err c = send_unmade c.args.t.now c.args.p c.args.q c.args.m c.args.s.now c.message-r.ensures c.in-Err.is
