use mathlib.Core.Path.{◌∙◌}
use Rattle.text_pieces.proofs.Laws as laws
use Rattle.text_pieces.proofs.digits.Goals as goal

pub returns : goal.returns
returns c = c.run.ensures ∙ laws.span-digits c.args.s.now
