use Rattle.step_offers.proofs.Laws.{else_here, else_not}
use Rattle.step_offers.proofs.else_at.Goals as goal

pub returns-then-code : goal.returns-then-code
returns-then-code c = else_here c.args.t.now c.args.q c.args.k c.code.ensures c.if-code.true c.pick_one.ensures

pub returns-else-code : goal.returns-else-code
returns-else-code c = else_not c.args.t.now c.args.q c.args.k c.code.ensures c.if-code.false
