use Rattle.state_types.proofs.Laws.{global_of}
use Rattle.state_types.proofs.is_global.Goals as goal

pub returns : goal.returns
returns c = global_of c.args.t.now c.args.j c.code.ensures c.link.ensures.value c.both.ensures
