use Rattle.read_passes.proofs.Passes as laws
use Rattle.read_passes.proofs.is_wide.Goals as goal

pub returns-then-text-le-NORMAL_MOST : goal.returns-then-text-le-NORMAL_MOST
returns-then-text-le-NORMAL_MOST c = laws.short-text _ c.if-text-le-NORMAL_MOST.true

pub returns : goal.returns
returns c = laws.long_text _ _ c.if-text-le-NORMAL_MOST.false c.writes_wide.ensures
