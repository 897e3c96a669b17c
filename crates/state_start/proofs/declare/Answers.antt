use Rattle.state_start.specs.Starting.{variable_made}
use mathlib.Core.Path.{◌∙◌}
use Rattle.state_start.proofs.declare.Goals as goal

pub returns : goal.returns
returns c = c.make_variable.ensures ∙ (λ i. variable_made c.args.t.now (c.link.ensures.value i) c.args.p (c.value_at.ensures.value i) c.args.s.now)
