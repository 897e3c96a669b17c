use Rattle.state_check.proofs.Laws.{belongs_as}
use Rattle.state_check.proofs.belongs.Goals as goal

pub returns : goal.returns
returns c = belongs_as c.args.t.now c.args.u c.args.q c.link-e.ensures.value c.both.ensures c.is_place.ensures c.both-2.ensures c.either.ensures
