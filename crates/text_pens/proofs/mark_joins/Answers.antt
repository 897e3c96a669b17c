use mathlib.Core.Path.{refl}
use Rattle.text_pens.proofs.Marks as laws
use borrow.Author.Tests.{ne_eqb}
use mathlib.Core.Path.{◌∙◌}
use Rattle.text_pens.proofs.mark_joins.Goals as goal

pub returns-then-letter-ne0 : goal.returns-then-letter-ne0
returns-then-letter-ne0 c = laws.two_bytes c.args.k c.args.c c.requires _ c.letter.ensures c.if-letter-ne0.true

pub returns-then-is_some : goal.returns-then-is_some
returns-then-is_some c = laws.joined-mark c.args.k c.args.c c.requires _ _ _ c.letter.ensures c.if-letter-ne0.false c.letter-a.ensures refl (laws.is-mark _ (rw (← c.mark_of_two.ensures, ← c.is_some.ensures) c.if-is_some.true))

pub returns-then-a-eq47 : goal.returns-then-a-eq47
returns-then-a-eq47 c = laws.joined-slash c.args.k c.args.c c.requires _ _ _ c.letter.ensures c.if-letter-ne0.false c.letter-a.ensures refl (laws.no-mark _ (rw (← c.mark_of_two.ensures, ← c.is_some.ensures) c.if-is_some.false)) c.if-a-eq47.true

pub returns-else-a-eq47 : goal.returns-else-a-eq47
returns-else-a-eq47 c = ne_eqb _ _ c.if-a-eq47.false ∙ laws.joined-none c.args.k c.args.c c.requires _ _ _ c.letter.ensures c.if-letter-ne0.false c.letter-a.ensures refl (laws.no-mark _ (rw (← c.mark_of_two.ensures, ← c.is_some.ensures) c.if-is_some.false)) c.if-a-eq47.false
