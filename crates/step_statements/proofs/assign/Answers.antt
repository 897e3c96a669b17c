use Rattle.step_statements.proofs.Laws.{assign_done, assign_fault, assign_astray}
use Rattle.step_statements.proofs.assign.Goals as goal

pub returns-in-Ok-y : goal.returns-in-Ok-y
returns-in-Ok-y c = assign_done c.args.t.now c.args.p c.args.q c.args.m c.args.s.now c.locate-x.ensures c.args.e c.in-Ok.is c.eval-y.ensures c.in-Ok-y.is c.in-Ok-y.known_told-in-Ok-y-1-own.given.0.1 c.store_at.ensures c.link.ensures.value c.move_to.ensures

pub returns-in-Err-y : goal.returns-in-Err-y
returns-in-Err-y c = assign_fault c.args.t.now c.args.p c.args.q c.args.m c.args.s.now c.locate-x.ensures c.args.e c.in-Ok.is c.eval-y.ensures c.in-Err-y.is

pub returns-in-Err : goal.returns-in-Err
returns-in-Err c = assign_astray c.args.t.now c.args.p c.args.q c.args.m c.args.s.now c.locate-x.ensures c.args.e c.in-Err.is
