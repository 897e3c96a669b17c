use Rattle.base_pens.specs.Pack as pack
use Rattle.base_pens.proofs.four.Goals as goal

pub returns : goal.returns
unfolding pack.four
returns c = rw (c.wide.ensures.0, c.wide-2.ensures.0, c.wide-3.ensures.0, c.wide-4.ensures.0)
