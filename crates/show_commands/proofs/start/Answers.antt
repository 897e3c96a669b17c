use Rattle.show_commands.proofs.Laws as laws
use Rattle.show_commands.specs.Statuses.{cleared}
use mathlib.Core.Path.{refl}
use Rattle.show_commands.proofs.start.Goals as goal

pub returns : goal.returns
unfolding cleared
returns c = laws.start_status_lem _ _ _ _ c.written-t.ensures refl c.start.ensures _ _ c.verdict_of.ensures c.answer_verdict.ensures
