use borrow.Author.Tests.{lt-leb, le-leb, ne_eqb}
use Rattle.write_lines.specs.Lines.{place_behind}
use Rattle.write_lines.proofs.place_behind.Goals as goal

pub returns-then-k-eq-CLOSE_BRACE : goal.returns-then-k-eq-CLOSE_BRACE
unfolding place_behind
returns-then-k-eq-CLOSE_BRACE c = rw (le-leb 4 c.args.p c.if-p-ge-LIST.true, c.if-k-eq-CLOSE_BRACE.true)

pub returns-then-p-ge-LIST : goal.returns-then-p-ge-LIST
unfolding place_behind
returns-then-p-ge-LIST c = rw (le-leb 4 c.args.p c.if-p-ge-LIST.true, ne_eqb c.args.k 26 c.if-k-eq-CLOSE_BRACE.false)

pub returns-then-k-eq-OPEN_BRACE : goal.returns-then-k-eq-OPEN_BRACE
unfolding place_behind
returns-then-k-eq-OPEN_BRACE c = rw (c.if-p-eq-HEAD.true, c.if-k-eq-OPEN_BRACE.true)

pub returns-then-p-eq-HEAD : goal.returns-then-p-eq-HEAD
unfolding place_behind
returns-then-p-eq-HEAD c = rw (c.if-p-eq-HEAD.true, ne_eqb c.args.k 25 c.if-k-eq-OPEN_BRACE.false)

pub returns-then-k-eq-OPEN_BRACE-2 : goal.returns-then-k-eq-OPEN_BRACE-2
unfolding place_behind
returns-then-k-eq-OPEN_BRACE-2 c = rw (c.if-p-eq-BODY.true, c.if-k-eq-OPEN_BRACE-2.true)

pub returns-then-k-eq-CLOSE_BRACE-2 : goal.returns-then-k-eq-CLOSE_BRACE-2
unfolding place_behind
returns-then-k-eq-CLOSE_BRACE-2 c = rw (c.if-p-eq-BODY.true, c.if-k-eq-CLOSE_BRACE-2.true)

pub returns-then-p-eq-BODY : goal.returns-then-p-eq-BODY
unfolding place_behind
returns-then-p-eq-BODY c = rw (c.if-p-eq-BODY.true, ne_eqb c.args.k 25 c.if-k-eq-OPEN_BRACE-2.false, ne_eqb c.args.k 26 c.if-k-eq-CLOSE_BRACE-2.false)

pub returns-then-begins_head : goal.returns-then-begins_head
unfolding place_behind
returns-then-begins_head c = rw (lt-leb 4 c.args.p c.if-p-ge-LIST.false, ne_eqb c.args.p 3 c.if-p-eq-HEAD.false, ne_eqb c.args.p 2 c.if-p-eq-BODY.false, ← c.begins_head.ensures, c.if-begins_head.true)

pub returns-then-k-eq-OPEN_BRACE-3 : goal.returns-then-k-eq-OPEN_BRACE-3
unfolding place_behind
returns-then-k-eq-OPEN_BRACE-3 c = rw (lt-leb 4 c.args.p c.if-p-ge-LIST.false, ne_eqb c.args.p 3 c.if-p-eq-HEAD.false, ne_eqb c.args.p 2 c.if-p-eq-BODY.false, ← c.begins_head.ensures, c.if-begins_head.false, c.if-k-eq-OPEN_BRACE-3.true)

pub returns-else-k-eq-OPEN_BRACE-3 : goal.returns-else-k-eq-OPEN_BRACE-3
unfolding place_behind
returns-else-k-eq-OPEN_BRACE-3 c = rw (lt-leb 4 c.args.p c.if-p-ge-LIST.false, ne_eqb c.args.p 3 c.if-p-eq-HEAD.false, ne_eqb c.args.p 2 c.if-p-eq-BODY.false, ← c.begins_head.ensures, c.if-begins_head.false, ne_eqb c.args.k 25 c.if-k-eq-OPEN_BRACE-3.false)
