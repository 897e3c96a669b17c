use mathlib.Core.Path.{◌∙◌}
use Rattle.step_ready.specs.Channels.{addressed_of}
use Rattle.step_ready.proofs.message.Goals as goal

pub returns : goal.returns
returns c = c.addressed.ensures ∙ (λ i. addressed_of c.args.t.now c.args.s.now (c.reached.ensures i) (c.arguments.ensures i))
