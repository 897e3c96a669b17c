use Rattle.state_used.proofs.Laws.{channel_as}
use Rattle.state_used.proofs.shape_channel.Goals as goal

pub returns : goal.returns
returns c = channel_as c.args.t.now c.args.s.now c.args.x.now c.args.c c.declared_of-d.ensures.value c.waiting_of.ensures.value c.least-n.ensures c.channel_at-i.ensures c.put_count.ensures c.put_count-2.ensures c.shape_messages.ensures
