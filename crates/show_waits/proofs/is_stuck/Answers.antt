use Rattle.show_waits.proofs.Laws as laws
use Rattle.show_waits.proofs.is_stuck.Goals as goal

pub returns-then-code : goal.returns-then-code
returns-then-code c = laws.stuck_run c.args.t.now c.args.s.now c.args.q c.mark-m.ensures.value c.code.ensures c.if-code.true c.link.ensures.value c.has_room.ensures

pub returns-else-code : goal.returns-else-code
returns-else-code c = laws.stuck_not c.args.t.now c.args.s.now c.args.q c.mark-m.ensures.value c.code.ensures c.if-code.false
