use lib.IntN.{pos}
use lib.ListN.{get_or-eq_default}
use mathlib.Core.Path.{sym}
use Rattle.state_layout.proofs.cell.Goals as goal

pub returns-else-i-s : goal.returns-else-i-s
returns-else-i-s c = sym (get_or-eq_default c.args.s.now (pos 0) c.if-i-s.false)
