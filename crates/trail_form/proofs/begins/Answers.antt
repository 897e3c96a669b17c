use borrow.Author.Tests.{eq-eqb, ne_eqb}
use Rattle.trail_form.proofs.begins.Goals as goal

pub returns-then-byte_at-letter : goal.returns-then-byte_at-letter
returns-then-byte_at-letter c = rw (← c.byte_at.ensures, eq-eqb c.byte_at.result c.args.letter c.if-byte_at-letter.true, ← c.byte_at-then-byte_at-letter.ensures)

pub returns : goal.returns
returns c = rw (← c.byte_at.ensures, ne_eqb c.byte_at.result c.args.letter c.if-byte_at-letter.false)
