use Rattle.show_printed.proofs.Laws as laws
use mathlib.Core.Path.{sym, ◌∙◌}
use native.Mathlib.Omega.{arith}
use Rattle.show_printed.proofs.put_escapes.Goals as goal

pub loop-b-preserved : goal.loop-b-preserved
loop-b-preserved c = sym (laws.escapes_more c.args.text.now c.loop-b.b-index _ _ (omega arith) c.put_escaped-q.ensures) ∙ c.loop-b.invariant

pub returns : goal.returns
returns c = sym (laws.escapes_end c.args.text.now c.loop-b.b-index _ (omega arith)) ∙ c.loop-b.invariant
