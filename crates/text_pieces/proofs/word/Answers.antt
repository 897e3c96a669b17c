use lib.Seq.{length-take-le}
use mathlib.Core.Path.{sym}
use borrow.Author.Tests.{lt-ltb}
use Rattle.base_ceilings.specs.Ceilings.{word_most}
use Rattle.text_pieces.proofs.word.Goals as goal

pub returns-then-n-gt-WORD_MOST : goal.returns-then-n-gt-WORD_MOST
returns-then-n-gt-WORD_MOST c = rw (lt-ltb word_most c.args.n c.if-n-gt-WORD_MOST.true)

pub slice_bounds-keyword-end : goal.slice_bounds-keyword-end
slice_bounds-keyword-end c = sym (length-take-le c.args.n c.args.s.now c.requires)
