use Rattle.step_statements.proofs.Laws.{from_done, from-fault}
use Rattle.step_statements.proofs.receive_from.Goals as goal

pub returns-in-Ok : goal.returns-in-Ok
returns-in-Ok c = from_done c.args.t.now c.args.p c.args.a c.args.c c.args.w c.args.s.now c.aim-g.ensures.value c.in-Ok.is c.aim-g.ensures.places_after c.fetch.ensures c.take.ensures c.deliver.ensures c.link.ensures.value c.move_to.ensures

pub returns-in-Err : goal.returns-in-Err
returns-in-Err c = from-fault c.args.t.now c.args.p c.args.a c.args.c c.args.w c.args.s.now c.aim-g.ensures.value c.in-Err.is
