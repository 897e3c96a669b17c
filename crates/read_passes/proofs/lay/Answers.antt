use Rattle.read_passes.proofs.Passes as laws
use Rattle.read_passes.proofs.lay.Goals as goal

pub returns : goal.returns
returns c = laws.built-laid _ _ _ _ _ _ c.fill_links.ensures c.build.ensures
