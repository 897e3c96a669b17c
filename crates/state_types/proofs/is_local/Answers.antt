use Rattle.state_types.proofs.Laws.{local_of}
use Rattle.state_types.proofs.is_local.Goals as goal

pub returns : goal.returns
returns c = local_of c.args.t.now c.args.j c.code-c.ensures c.either.ensures
