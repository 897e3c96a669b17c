use Rattle.state_check.proofs.Laws.{process-sound}
use Rattle.state_check.proofs.process_sound.Goals as goal

pub returns : goal.returns
returns c = process-sound c.args.t.now c.args.s.now c.args.p c.items_last-e.ensures c.process_at.ensures c.counts_from.ensures c.is_process.ensures c.both.ensures
