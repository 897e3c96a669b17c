use Rattle.show_answers.proofs.Laws as laws
use mathlib.Core.Path.{◌∙◌}
use Rattle.show_answers.proofs.last_line.Goals as goal

pub returns : goal.returns
returns c = c.part.ensures ∙ laws.last_line_lem c.args.s.now _ c.line_start.ensures.1
