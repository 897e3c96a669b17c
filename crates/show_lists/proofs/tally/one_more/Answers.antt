use native.Mathlib.Omega.{arith}
use Rattle.show_lists.proofs.Laws as laws
use Rattle.show_lists.proofs.tally.one_more.Goals as goal

pub returns : goal.returns
returns c = laws.more_least c.args.n _ (omega arith) c.saturating_add.ensures
