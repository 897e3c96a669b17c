use Rattle.state_check.proofs.Laws.{process_is}
use Rattle.state_check.proofs.is_process.Goals as goal

pub returns : goal.returns
returns c = process_is c.args.t.now c.args.s.now c.args.p c.unit_of-u.ensures.value c.code.ensures c.within.ensures c.place_of.ensures.value c.belongs.ensures c.locals_fit.ensures c.both.ensures c.both-2.ensures
