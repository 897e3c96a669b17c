use lib.Seq.{set_out}
use mathlib.Core.Path.{sym}
use Rattle.step_messages.proofs.note.Goals as goal

pub returns-else-k-places : goal.returns-else-k-places
returns-else-k-places c = sym (set_out _ _ _ c.if-k-places.false)
