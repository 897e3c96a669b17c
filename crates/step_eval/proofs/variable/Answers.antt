use Rattle.table_layout.specs.Access.{link_of}
use mathlib.Core.Path.{ap, ◌∙◌}
use Rattle.step_eval.proofs.variable.Goals as goal

pub returns : goal.returns
returns c = c.link-2.ensures.value ∙ ap (link_of c.args.t.now) c.link.ensures.value
