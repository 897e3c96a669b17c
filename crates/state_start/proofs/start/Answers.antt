use Rattle.state_start.proofs.Laws.{whole-state}
use Rattle.state_start.proofs.start.Goals as goal

pub returns : goal.returns
returns c = whole-state c.args.t.now c.args.s.now _ _ _ c.items.ensures.value c.least-n.ensures c.clear.ensures c.make_globals.ensures c.start_units.ensures
