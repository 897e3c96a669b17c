use native.Mathlib.Omega.{arith}
use mathlib.Core.Path.{sym, ◌∙◌}
use Rattle.show_lists.proofs.Laws as laws
use Rattle.show_lists.proofs.words.end_of.Goals as goal

pub loop-b-preserved : goal.loop-b-preserved
loop-b-preserved c = laws.place-more c.args.line.now c.loop-b.b-index _ _ (omega arith) c.behind-x.ensures ∙ c.loop-b.invariant

pub returns : goal.returns
returns c = sym (laws.place_end c.args.line.now c.loop-b.b-index _ (omega arith)) ∙ c.loop-b.invariant
