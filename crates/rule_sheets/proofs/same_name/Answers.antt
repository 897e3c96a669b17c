use Rattle.rule_sheets.specs.Payload.{same_name}
use borrow.Author.Tests.{eq-eqb, ne_eqb}
use Rattle.rule_sheets.proofs.same_name.Goals as goal

pub returns-then-byte_at-eq-NAME : goal.returns-then-byte_at-eq-NAME
unfolding same_name
returns-then-byte_at-eq-NAME c = simp (← c.byte_at.ensures, eq-eqb _ _ c.if-byte_at-eq-NAME.true, c.alike.ensures, c.word_at.ensures.value, c.word_at-then-byte_at-eq-NAME.ensures.value)

pub returns-else-byte_at-eq-NAME : goal.returns-else-byte_at-eq-NAME
unfolding same_name
returns-else-byte_at-eq-NAME c = simp (← c.byte_at.ensures, ne_eqb _ _ c.if-byte_at-eq-NAME.false)
