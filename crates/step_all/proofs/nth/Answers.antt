use Rattle.step_all.proofs.Laws as laws
use Rattle.step_all.proofs.nth.Goals as goal

pub returns-in-Step : goal.returns-in-Step
returns-in-Step c = laws.nth_found_off c.args.t.now c.args.s.now c.args.n c.nth_by-o.ensures _ c.in-Step.is

pub returns-then-l-n : goal.returns-then-l-n
returns-then-l-n c = laws.nth-late c.args.t.now c.args.s.now c.args.n c.nth_by-o.ensures _ c.in-Beyond.is c.if-l-n.true c.nth_by.ensures

pub returns-else-l-n : goal.returns-else-l-n
returns-else-l-n c = laws.nth_past c.args.t.now c.args.s.now c.args.n c.nth_by-o.ensures _ c.in-Beyond.is c.if-l-n.false
