use lib.ListN.{get_or-eq_default}
use native.Mathlib.Omega.{arith}
use mathlib.Core.Path.{sym}
use Rattle.base_ceilings.specs.Ceilings.{ceilings}
use Rattle.base_ceilings.proofs.ceiling.Goals as goal

pub returns-else-k-lt29 : goal.returns-else-k-lt29
returns-else-k-lt29 c = sym (get_or-eq_default ceilings 0 {n = c.args.k} (omega arith))
