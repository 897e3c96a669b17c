use Rattle.state_start.proofs.Laws.{global-here, global_local, global_other}
use Rattle.state_start.proofs.make_global.Goals as goal

pub returns-then-link-eq0 : goal.returns-then-link-eq0
returns-then-link-eq0 c = global-here c.args.t.now c.args.s.now c.args.j c.code.ensures c.if-code.true c.link.ensures.value c.if-link-eq0.true c.declare.ensures

pub returns-else-link-eq0 : goal.returns-else-link-eq0
returns-else-link-eq0 c = global_local c.args.t.now c.args.s.now c.args.j c.code.ensures c.if-code.true c.link.ensures.value c.if-link-eq0.false

pub returns-else-code : goal.returns-else-code
returns-else-code c = global_other c.args.t.now c.args.s.now c.args.j c.code.ensures c.if-code.false
