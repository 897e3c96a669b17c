use mathlib.Core.List.{◌∷◌, []}
use Rattle.base_kinds.specs.Kinds.{bytes}
use Rattle.spec_text.specs.Formats.{digits_of}
use Rattle.spec_account.specs.Bytes.{each_escaped}
use Rattle.base_pens.proofs.Pen as pens
use Rattle.show_answers.proofs.put_heading.Goals as goal

pub returns : goal.returns
returns c = pens.then_puts (bytes "== ") _ _ _ _ c.put_all-a.ensures (pens.then_puts (digits_of c.args.n) _ _ _ _ c.put_count-b.ensures (pens.then_puts (32 ∷ []) _ _ _ _ (pens.one-put 32 _ _ c.put-c.ensures) (pens.then_puts (each_escaped c.args.line.now) (10 ∷ []) _ _ _ c.put_escapes-d.ensures (pens.one-put 10 _ _ c.put.ensures))))
