use Rattle.text_pens.proofs.Laws as laws
use mathlib.Core.Path.{sym, refl, ◌∙◌}
use native.Mathlib.Omega.{arith}
use Rattle.text_pens.proofs.put_all.Goals as goal

pub loop-b-preserved : goal.loop-b-preserved
loop-b-preserved c = laws.puts-more c.args.s.now c.loop-b.b-index _ _ _ (omega arith) refl c.put-q.ensures ∙ c.loop-b.invariant

pub returns : goal.returns
returns c = sym (laws.puts_end c.args.s.now c.loop-b.b-index _ (omega arith)) ∙ c.loop-b.invariant
