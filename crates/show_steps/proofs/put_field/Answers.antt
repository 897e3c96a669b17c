use Rattle.base_pens.proofs.Pen as pens
use Rattle.spec_text.specs.Formats.{digits_of}
use mathlib.Core.List.{◌∷◌, []}
use Rattle.show_steps.proofs.put_field.Goals as goal

pub returns : goal.returns
returns c = pens.then_puts (digits_of c.args.n) (9 ∷ []) _ _ _ c.put_count-a.ensures (pens.one-put 9 _ _ c.put.ensures)
