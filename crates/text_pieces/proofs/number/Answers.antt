use lib.ListN.{take}
use Rattle.base_ceilings.specs.Ceilings.{number_most}
use Rattle.spec_text.specs.Digits.{decimal}
use native.Mathlib.Omega.{arith}
use lib.Seq.{length-take-le}
use mathlib.Core.Path.{sym}
use borrow.Author.Tests.{lt-ltb, le-ltb}
use Rattle.text_pieces.proofs.number.Goals as goal

pub slice_bounds-value-end : goal.slice_bounds-value-end
slice_bounds-value-end c = sym (length-take-le c.args.n c.args.s.now c.requires)

pub returns-then-v-gt-NUMBER_MOST : goal.returns-then-v-gt-NUMBER_MOST
returns-then-v-gt-NUMBER_MOST c = rw (lt-ltb number_most (decimal (take c.args.n c.args.s.now)) (omega (arith, c.value-v.ensures, c.if-v-gt-NUMBER_MOST.true)))

pub returns : goal.returns
returns c = rw (le-ltb number_most (decimal (take c.args.n c.args.s.now)) (omega (arith, c.value-v.ensures, c.if-v-gt-NUMBER_MOST.false)))
