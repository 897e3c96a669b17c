use Rattle.run_entry.proofs.Laws as laws
use Rattle.show_run.proofs.turn.Goals as goal

pub returns-in-Step : goal.returns-in-Step
returns-in-Step c = laws.turn_step c.args.t.now c.args.s.now c.nth-o.ensures _ c.in-Step.is c.advance.ensures

pub returns-in-Beyond : goal.returns-in-Beyond
returns-in-Beyond c = laws.turn_none c.args.t.now c.args.s.now c.nth-o.ensures _ c.in-Beyond.is
