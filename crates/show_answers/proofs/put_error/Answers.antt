use Rattle.base_pens.proofs.Pen as pens
use Rattle.spec_account.specs.Bytes.{each_escaped}
use mathlib.Core.List.{◌∷◌, []}
use Rattle.show_answers.proofs.put_error.Goals as goal

pub returns : goal.returns
returns c = pens.then_puts c.args.words.now _ _ _ _ c.put_all-a.ensures (pens.then_puts (each_escaped c.args.name.now) (10 ∷ []) _ _ _ c.put_escapes-b.ensures (pens.one-put 10 _ _ c.put.ensures))
