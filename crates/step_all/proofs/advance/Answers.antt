use Rattle.spec_machine.specs.Machine.{advance}
use Rattle.step_all.proofs.advance.Goals as goal

pub returns : goal.returns
unfolding advance
returns c = c.take.ensures
