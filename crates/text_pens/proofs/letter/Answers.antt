use Rattle.text_pens.proofs.Sheet as laws
use mathlib.Core.Path.{refl}
use Rattle.text_pens.proofs.letter.Goals as goal

pub returns-then-j-lt8 : goal.returns-then-j-lt8
returns-then-j-lt8 c = laws.letter_in c.args.k c.args.j _ _ _ c.if-j-lt8.true c.saturating_sub.ensures refl c.sheet_at.ensures

pub returns-else-j-lt8 : goal.returns-else-j-lt8
returns-else-j-lt8 c = laws.letter_out c.args.k c.args.j c.if-j-lt8.false
