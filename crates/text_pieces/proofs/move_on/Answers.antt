use borrow.Author.Tests.{ne_eqb}
use Rattle.text_pieces.proofs.move_on.Goals as goal

pub returns-then-is_escape : goal.returns-then-is_escape
returns-then-is_escape c = rw (c.if-escaped.true, ← c.is_escape.ensures, c.if-is_escape.true)

pub returns-then-escaped : goal.returns-then-escaped
returns-then-escaped c = rw (c.if-escaped.true, ← c.is_escape.ensures, c.if-is_escape.false)

pub returns-then-b-eq34 : goal.returns-then-b-eq34
returns-then-b-eq34 c = rw (c.if-escaped.false, c.if-b-eq34.true)

pub returns-then-b-eq92 : goal.returns-then-b-eq92
returns-then-b-eq92 c = rw (c.if-escaped.false, c.if-b-eq92.true)

pub returns-then-is_plain : goal.returns-then-is_plain
returns-then-is_plain c = rw (c.if-escaped.false, ne_eqb c.args.b 34 c.if-b-eq34.false, ne_eqb c.args.b 92 c.if-b-eq92.false, ← c.is_plain.ensures, c.if-is_plain.true)

pub returns : goal.returns
returns c = rw (c.if-escaped.false, ne_eqb c.args.b 34 c.if-b-eq34.false, ne_eqb c.args.b 92 c.if-b-eq92.false, ← c.is_plain.ensures, c.if-is_plain.false)
