use Rattle.state_layout.proofs.Laws.{kept_of}
use Rattle.state_layout.proofs.kept.Goals as goal

pub returns : goal.returns
returns c = kept_of c.args.n c.least.ensures
