use Rattle.step_statements.proofs.Laws.{receive_by, receive_none, receive_fault, receive_unmade}
use Rattle.step_statements.proofs.receive.Goals as goal

pub returns-in-Message : goal.returns-in-Message
returns-in-Message c = receive_by c.args.t.now c.args.p c.args.q c.args.m c.args.s.now c.message-r.ensures c.in-Ok.is c.tried.ensures c.find-x.ensures c.in-Message.is c.receive_from.ensures

pub returns-in-Nothing : goal.returns-in-Nothing
returns-in-Nothing c = receive_none c.args.t.now c.args.p c.args.q c.args.m c.args.s.now c.message-r.ensures c.in-Ok.is c.tried.ensures c.find-x.ensures c.in-Nothing.is

pub returns-in-Spoilt : goal.returns-in-Spoilt
returns-in-Spoilt c = receive_fault c.args.t.now c.args.p c.args.q c.args.m c.args.s.now c.message-r.ensures c.in-Ok.is c.tried.ensures c.find-x.ensures c.in-Spoilt.is

pub returns-in-Err : goal.returns-in-Err
returns-in-Err c = receive_unmade c.args.t.now c.args.p c.args.q c.args.m c.args.s.now c.message-r.ensures c.in-Err.is
