use Rattle.step_take.specs.Effects.{taken_by}
use mathlib.Core.Path.{ap, ◌∙◌}
use Rattle.step_take.proofs.take.Goals as goal

pub returns : goal.returns
returns c = c.take_by.ensures ∙ ap (λ m. taken_by c.args.t.now c.args.p c.args.q m c.args.s.now) c.mark.ensures.value
