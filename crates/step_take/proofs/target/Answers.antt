use Rattle.step_take.proofs.Laws.{target_run, target_assign}
use Rattle.step_take.proofs.target.Goals as goal

pub returns-then-code : goal.returns-then-code
returns-then-code c = target_run c.args.t.now c.args.p c.args.q c.args.m c.args.s.now c.link-e.ensures.value c.code.ensures c.if-code.true c.set_run.ensures

pub returns-else-code : goal.returns-else-code
returns-else-code c = target_assign c.args.t.now c.args.p c.args.q c.args.m c.args.s.now c.link-e.ensures.value c.code.ensures c.if-code.false c.assign.ensures
