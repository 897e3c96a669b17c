use Rattle.base_ceilings.specs.Ceilings.{number_most}
use Rattle.text_pieces.proofs.Laws as laws
use native.Mathlib.Omega.{arith}
use mathlib.Core.Path.{◌∙◌}
use Prim.Native.Nat.{◌+◌}
use borrow.Author.Rules.{rules}
use Rattle.text_pieces.proofs.value.Goals as goal

pub loop-b-preserved : goal.loop-b-preserved
loop-b-preserved c = (omega arith, rw (c.min-v.ensures, c.digit.ensures) (laws.cut_more (number_most + 1) c.args.s.now c.loop-b.b-index c.loop-b.v (search rules) ∙ c.loop-b.invariant.1))

pub returns : goal.returns
returns c = laws.cut_end (number_most + 1) c.args.s.now c.loop-b.b-index c.loop-b.v (search rules) (search rules) ∙ c.loop-b.invariant.1
