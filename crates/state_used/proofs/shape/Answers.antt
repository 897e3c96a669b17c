use Rattle.state_used.proofs.Laws.{shaped_as}
use Rattle.state_used.proofs.shape.Goals as goal

pub returns : goal.returns
returns c = shaped_as c.args.t.now c.args.s.now c.args.x.now c.processes_in-p.ensures c.channels_in-c.ensures c.put_count.ensures c.put_count-2.ensures c.items.ensures.value c.least.ensures c.shape_globals.ensures c.shape_processes.ensures c.shape_channels.ensures
