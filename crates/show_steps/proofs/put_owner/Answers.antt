use Rattle.show_words.specs.Words.{title_in}
use Rattle.base_pens.specs.Pen.{pen, puts}
use mathlib.Core.Path.{◌∙◌, ap}
use Rattle.show_steps.proofs.put_owner.Goals as goal

pub returns : goal.returns
returns c = c.put_title.ensures ∙ ap (λ u. puts (title_in c.args.t.now u) (pen c.args.out.now c.args.p)) c.unit_of.ensures.value
