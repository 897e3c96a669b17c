use Rattle.step_ready.proofs.Laws.{reached_of_lem}
use Rattle.step_ready.proofs.reached.Goals as goal

pub returns : goal.returns
returns c = reached_of_lem c.args.t.now c.args.s.now c.args.p c.args.from c.args.to c.locate.ensures c.load.ensures c.channel.ensures
