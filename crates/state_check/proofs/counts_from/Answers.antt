use Rattle.state_check.proofs.Laws.{counts_both}
use Rattle.state_check.proofs.counts_from.Goals as goal

pub returns : goal.returns
returns c = counts_both c.args.s.now c.args.a c.args.b c.args.i c.counts_at.ensures c.counts_at-2.ensures c.both.ensures
