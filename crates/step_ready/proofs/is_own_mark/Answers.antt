use Rattle.step_ready.specs.Executing.{is_own_mark}
use Rattle.step_ready.proofs.is_own_mark.Goals as goal

pub returns : goal.returns
unfolding is_own_mark
returns c = rw (c.either.ensures, c.is_alone.ensures)
