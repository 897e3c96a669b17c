use Rattle.step_ready.specs.Executing.{ready_by}
use mathlib.Core.Path.{ap, ◌∙◌}
use Rattle.step_ready.proofs.ready.Goals as goal

pub returns : goal.returns
returns c = c.ready_by.ensures ∙ ap (λ m. ready_by c.args.t.now c.args.s.now c.args.p c.args.late c.args.q m) c.mark.ensures.value
