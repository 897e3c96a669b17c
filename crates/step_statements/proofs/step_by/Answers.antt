use Rattle.step_statements.proofs.Laws.{step_done, step-fault}
use Rattle.step_statements.proofs.step_by.Goals as goal

pub returns-in-Ok : goal.returns-in-Ok
returns-in-Ok c = step_done c.args.t.now c.args.p c.args.q c.args.m c.args.s.now c.locate-x.ensures c.args.d c.ranges.d c.in-Ok.is c.cell.type_inv c.cell.ensures c.add-v.type_inv c.add-v.ensures c.store_at.ensures c.link.ensures.value c.move_to.ensures

pub returns-in-Err : goal.returns-in-Err
returns-in-Err c = step-fault c.args.t.now c.args.p c.args.q c.args.m c.args.s.now c.locate-x.ensures c.args.d c.in-Err.is
