use Rattle.base_pens.proofs.Pen as pens
use Rattle.spec_text.specs.Formats.{digits_of}
use Rattle.base_kinds.specs.Kinds.{bytes}
use mathlib.Core.List.{◌∷◌, []}
use Rattle.show_steps.proofs.put_nobody.Goals as goal

pub returns : goal.returns
returns c = pens.then_puts (bytes "  there is no process ") _ _ _ _ c.put_all-a.ensures (pens.then_puts (digits_of c.args.process) (10 ∷ []) _ _ _ c.put_count-b.ensures (pens.one-put 10 _ _ c.put.ensures))
