use Rattle.text_pens.proofs.Marks as laws
use mathlib.Core.Path.{◌∙◌}
use borrow.Author.Tests.{ne_eqb}
use Rattle.text_pens.proofs.joins.Goals as goal

pub returns-then-k-lt71 : goal.returns-then-k-lt71
returns-then-k-lt71 c = c.is_word.ensures ∙ laws.word-joins c.args.k c.args.c c.if-k-lt38.false c.if-k-lt71.true

pub returns-then-k-eq71 : goal.returns-then-k-eq71
returns-then-k-eq71 c = c.is_digit.ensures ∙ laws.number-joins c.args.k c.args.c c.if-k-eq71.true

pub returns-else-k-eq71 : goal.returns-else-k-eq71
returns-else-k-eq71 c = ne_eqb _ _ c.if-k-eq71.false ∙ laws.none-joins c.args.k c.args.c c.if-k-lt71.false c.if-k-eq71.false
