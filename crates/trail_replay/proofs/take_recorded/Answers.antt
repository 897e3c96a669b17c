use Rattle.trail_replay.proofs.Laws as laws
use Rattle.trail_replay.proofs.take_recorded.Goals as goal

pub returns-in-Step : goal.returns-in-Step
returns-in-Step c = laws.step_there c.args.t.now c.args.process c.args.k c.args.s.now c.step_at-o.result c.step_at-o.ensures _ c.in-Step.is c.advance.ensures

pub returns-in-Beyond : goal.returns-in-Beyond
returns-in-Beyond c = laws.no_such_step c.args.t.now c.args.process c.args.k c.args.s.now c.step_at-o.result c.step_at-o.ensures _ c.in-Beyond.is
