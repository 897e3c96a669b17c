use mathlib.Core.Path.{refl}
use Rattle.show_commands.specs.Statuses.{cleared}
use Rattle.show_commands.proofs.Laws as laws
use Rattle.show_commands.proofs.run.Goals as goal

pub returns : goal.returns
unfolding cleared
returns c = laws.run_status_lem _ _ _ _ c.written-t.ensures refl c.start.ensures _ _ _ _ c.run-r.ensures c.answer_run.ensures
