use Rattle.state_used.proofs.Laws.{process_as}
use Rattle.state_used.proofs.shape_process.Goals as goal

pub returns : goal.returns
returns c = process_as c.args.t.now c.args.s.now c.args.x.now c.args.p c.unit_of-u.ensures.value c.process_at-i.ensures c.put_count.ensures c.place_of.ensures.value c.put_count-2.ensures c.shape_locals.ensures
