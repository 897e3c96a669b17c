use Rattle.trail_replay.proofs.Laws as laws
use Rattle.trail_replay.proofs.reached.Goals as goal

pub returns-then-failed-eq0 : goal.returns-then-failed-eq0
returns-then-failed-eq0 c = laws.reached_state c.args.t.now c.args.s.now c.args.failed c.if-failed-eq0.true c.verdict_of.ensures c.number_of.ensures

pub returns-else-failed-eq0 : goal.returns-else-failed-eq0
returns-else-failed-eq0 c = laws.reached_failure c.args.t.now c.args.s.now c.args.failed c.if-failed-eq0.false
