use mathlib.Core.Path.{refl, sym}
use lib.ListN.{get_or-eq_default}
use Rattle.text_pens.specs.Sheet.{sizes}
use borrow.Author.Rules.{rules}
use Rattle.text_pens.proofs.size_at.Goals as goal

pub returns-then-i-lt69 : goal.returns-then-i-lt69
unfolding sizes
returns-then-i-lt69 c = refl

pub returns-else-i-lt69 : goal.returns-else-i-lt69
unfolding sizes
returns-else-i-lt69 c = sym (get_or-eq_default sizes 0 {n = c.args.i} (search rules))
