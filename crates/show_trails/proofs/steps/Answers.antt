use Rattle.show_commands.proofs.Laws as laws
use Rattle.show_commands.specs.Statuses.{cleared}
use mathlib.Core.Path.{refl}
use Rattle.show_trails.proofs.steps.Goals as goal

pub returns : goal.returns
unfolding cleared
returns c = laws.replay_status_lem _ _ _ _ _ _ refl c.replay-r.ensures c.answer_replay.ensures
