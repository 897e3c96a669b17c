use Rattle.base_pens.proofs.Pen as pens
use Rattle.spec_text.specs.Formats.{digits_of}
use mathlib.Core.List.{◌∷◌, []}
use Rattle.show_answers.proofs.put_counted.Goals as goal

pub returns : goal.returns
returns c = pens.then_puts c.args.word.now _ _ _ _ c.put_all-a.ensures (pens.then_puts (32 ∷ []) _ _ _ _ (pens.one-put 32 _ _ c.put-b.ensures) (pens.then_puts (digits_of c.args.n) (10 ∷ []) _ _ _ c.put_count-c.ensures (pens.one-put 10 _ _ c.put.ensures)))
