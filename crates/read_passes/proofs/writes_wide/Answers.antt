use Rattle.read_passes.proofs.Passes as laws
use mathlib.Core.Path.{refl, sym}
use Rattle.read_passes.proofs.writes_wide.Goals as goal

pub returns : goal.returns
returns c = laws.let_through c.args.text.now _ _ _ _ _ _ c.through.ensures.value (sym c.if-is_err.ensures.value) refl c.through.ensures.out_after c.length_of.ensures c.least-n.ensures c.is_overlong.ensures
