use Rattle.text_pieces.proofs.Laws as laws
use borrow.Author.Tests.{ne_eqb, eq-eqb}
use mathlib.Core.Path.{◌∙◌, ap, sym}
use lib.ListN.{get_or}
use Rattle.text_pieces.specs.Pieces.{word_of, number_of}
use Rattle.text_pieces.proofs.front.Goals as goal

pub returns-then-s-eq0 : goal.returns-then-s-eq0
returns-then-s-eq0 c = laws.nothing_there c.args.s.now c.if-s-eq0.true

pub returns-then-is_blank : goal.returns-then-is_blank
returns-then-is_blank c = rw (laws.front_of_lem c.args.s.now c.if-s-eq0.false, ← c.is_blank.ensures, c.if-is_blank.true)

pub word-requires : goal.word-requires
word-requires c = rw c.run.ensures (laws.span_le _ c.args.s.now)

pub returns-then-is_letter : goal.returns-then-is_letter
returns-then-is_letter c = rw (laws.front_of_lem c.args.s.now c.if-s-eq0.false, ← c.is_blank.ensures, c.if-is_blank.false, ← c.is_letter.ensures, c.if-is_letter.true) (c.word.ensures ∙ ap (word_of c.args.s.now) c.run.ensures)

pub number-requires : goal.number-requires
number-requires c = rw c.digits.ensures (laws.span_le _ c.args.s.now)

pub returns-then-is_digit : goal.returns-then-is_digit
returns-then-is_digit c = rw (laws.front_of_lem c.args.s.now c.if-s-eq0.false, ← c.is_blank.ensures, c.if-is_blank.false, ← c.is_letter.ensures, c.if-is_letter.false, ← c.is_digit.ensures, c.if-is_digit.true) (c.number.ensures ∙ ap (number_of c.args.s.now) c.digits.ensures)

pub returns-then-b-eq34 : goal.returns-then-b-eq34
returns-then-b-eq34 c = rw (laws.front_of_lem c.args.s.now c.if-s-eq0.false, ← c.is_blank.ensures, c.if-is_blank.false, ← c.is_letter.ensures, c.if-is_letter.false, ← c.is_digit.ensures, c.if-is_digit.false, eq-eqb (get_or c.args.s.now 0 0) 34 c.if-b-eq34.true) (rw (laws.tail-part 1 c.args.s.now) at c.string.ensures)

pub slice_bounds-comment-count : goal.slice_bounds-comment-count
slice_bounds-comment-count c = laws.two_there c.args.s.now (get_or c.args.s.now 0 0) c.byte_at-next.result c.byte_at-next.ensures (sym c.opens.ensures ∙ c.if-opens.true)

pub slice_bounds-comment-start : goal.slice_bounds-comment-start
slice_bounds-comment-start c = laws.two_there c.args.s.now (get_or c.args.s.now 0 0) c.byte_at-next.result c.byte_at-next.ensures (sym c.opens.ensures ∙ c.if-opens.true)

pub returns-then-opens : goal.returns-then-opens
returns-then-opens c = rw (laws.front_of_lem c.args.s.now c.if-s-eq0.false, ← c.is_blank.ensures, c.if-is_blank.false, ← c.is_letter.ensures, c.if-is_letter.false, ← c.is_digit.ensures, c.if-is_digit.false, ne_eqb (get_or c.args.s.now 0 0) 34 c.if-b-eq34.false, ← c.byte_at-next.ensures, ← c.opens.ensures, c.if-opens.true) (rw (laws.tail-part 2 c.args.s.now) at c.comment.ensures)

pub returns : goal.returns
returns c = rw (laws.front_of_lem c.args.s.now c.if-s-eq0.false, ← c.is_blank.ensures, c.if-is_blank.false, ← c.is_letter.ensures, c.if-is_letter.false, ← c.is_digit.ensures, c.if-is_digit.false, ne_eqb (get_or c.args.s.now 0 0) 34 c.if-b-eq34.false, ← c.byte_at-next.ensures, ← c.opens.ensures, c.if-opens.false) c.mark.ensures
