use mathlib.Core.Path.{refl, sym}
use lib.ListN.{get_or-eq_default}
use Rattle.text_pens.specs.Sheet.{sheet}
use borrow.Author.Rules.{rules}
use Rattle.text_pens.proofs.sheet_at.Goals as goal

pub returns-then-i-lt552 : goal.returns-then-i-lt552
unfolding sheet
returns-then-i-lt552 c = refl

pub returns-else-i-lt552 : goal.returns-else-i-lt552
unfolding sheet
returns-else-i-lt552 c = sym (get_or-eq_default sheet 0 {n = c.args.i} (search rules))
