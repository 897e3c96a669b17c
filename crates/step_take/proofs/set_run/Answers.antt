use Rattle.step_take.proofs.Laws.{set_run_at_lem, set_run_astray}
use Rattle.step_take.proofs.set_run.Goals as goal

pub returns-in-Ok : goal.returns-in-Ok
returns-in-Ok c = set_run_at_lem c.args.t.now c.args.p c.args.q c.args.m c.args.s.now c.locate-x.ensures c.args.e c.in-Ok.is c.set_run_at.ensures

pub returns-in-Err : goal.returns-in-Err
returns-in-Err c = set_run_astray c.args.t.now c.args.p c.args.q c.args.m c.args.s.now c.locate-x.ensures c.args.e c.in-Err.is
