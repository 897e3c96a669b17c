use mathlib.Core.Path.{refl}
use Rattle.write_length.proofs.Laws as laws
use Rattle.write_length.proofs.is_overlong.Goals as goal

pub returns : goal.returns
returns c = laws.is_overlong _ _ _ _ refl c.write_normal-n.ensures
