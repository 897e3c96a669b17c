use Rattle.table_layout.specs.Access.{number_of}
use mathlib.Core.Path.{ap, ◌∙◌}
use Rattle.step_ready.proofs.capacity.Goals as goal

pub returns : goal.returns
returns c = c.number.ensures.value ∙ ap (number_of c.args.t.now) c.minus_one.ensures
