use Rattle.base_pens.proofs.Pen as pens
use Rattle.spec_account.specs.Answers.{refused_line}
use Rattle.spec_text.specs.Formats.{digits_of}
use Rattle.base_kinds.specs.Kinds.{bytes}
use mathlib.Core.List.{◌∷◌, []}
use Rattle.show_answers.proofs.put_refusal.Goals as goal

pub returns : goal.returns
unfolding refused_line
returns c = pens.then_puts (bytes "refused ") _ _ _ _ c.put_all-a.ensures (pens.then_puts (digits_of c.args.x) _ _ _ _ c.put_count-b.ensures (pens.then_puts (32 ∷ []) _ _ _ _ (pens.one-put 32 _ _ c.put-c.ensures) (pens.then_puts (digits_of c.args.place) _ _ _ _ c.put_count-d.ensures c.put_counted.ensures)))
