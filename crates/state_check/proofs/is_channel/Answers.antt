use Rattle.state_check.proofs.Laws.{channel_is}
use Rattle.state_check.proofs.is_channel.Goals as goal

pub returns : goal.returns
returns c = channel_is c.args.t.now c.args.s.now c.args.c c.declared_of-d.ensures.value c.waiting_of-n.ensures.value c.code.ensures c.capacity.ensures c.both.ensures c.least.ensures c.messages_fit.ensures c.both-2.ensures
