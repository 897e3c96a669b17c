use Rattle.state_check.proofs.Laws.{channel-sound}
use Rattle.state_check.proofs.channel_sound.Goals as goal

pub returns : goal.returns
returns c = channel-sound c.args.t.now c.args.s.now c.args.c c.items_last-e.ensures c.channel_at.ensures c.counts_from.ensures c.is_channel.ensures c.both.ensures
