use Rattle.state_check.proofs.Laws.{sound_as}
use Rattle.state_check.proofs.sound.Goals as goal

pub returns : goal.returns
returns c = sound_as c.args.t.now c.args.s.now c.counts_from.ensures c.items.ensures.value c.least.ensures c.globals_fit.ensures c.processes_in.ensures c.processes_sound.ensures c.channels_in.ensures c.channels_sound.ensures c.both.ensures c.both-2.ensures c.both-3.ensures
