use Rattle.state_start.proofs.Laws.{channel-more}
use Rattle.state_start.proofs.make_channel.Goals as goal

pub returns : goal.returns
returns c = channel-more c.args.s.now _ _ c.args.m c.channels-c.ensures.value c.channel_at.ensures c.put_count.ensures c.put_count-2.ensures
