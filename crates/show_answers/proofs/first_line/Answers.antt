use Rattle.show_answers.proofs.Laws as laws
use mathlib.Core.Path.{◌∙◌}
use Rattle.show_answers.proofs.first_line.Goals as goal

pub returns : goal.returns
returns c = c.part.ensures ∙ laws.first-line c.args.s.now _ c.line_stop.ensures.1
