use Rattle.text_pens.proofs.Sheet as laws
use Rattle.text_pens.proofs.size_of.Goals as goal

pub returns : goal.returns
returns c = laws.size_in c.args.k _ _ c.saturating_sub.ensures c.size_at.ensures
