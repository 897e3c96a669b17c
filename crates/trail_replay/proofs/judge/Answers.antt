use Rattle.trail_replay.proofs.Laws as laws
use Rattle.trail_replay.proofs.judge.Goals as goal

pub returns-then-claim-reached : goal.returns-then-claim-reached
returns-then-claim-reached c = laws.same-verdict c.args.claim c.args.reached c.args.line c.if-claim-reached.true

pub returns-else-claim-reached : goal.returns-else-claim-reached
returns-else-claim-reached c = laws.other_verdict c.args.claim c.args.reached c.args.line c.if-claim-reached.false
