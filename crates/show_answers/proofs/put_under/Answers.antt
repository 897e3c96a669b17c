use Rattle.show_answers.proofs.Laws as laws
use mathlib.Core.Path.{sym, ◌∙◌}
use native.Mathlib.Omega.{arith}
use Rattle.show_answers.proofs.put_under.Goals as goal

pub loop-b-preserved : goal.loop-b-preserved
loop-b-preserved c = laws.under_more c.args.s.now c.loop-b.b-index c.args.mark _ _ _ c.loop-b-test.true c.width.ensures c.put_times-q.ensures ∙ c.loop-b.invariant

pub returns : goal.returns
returns c = sym (laws.under_end c.args.s.now c.loop-b.b-index c.args.mark _ (omega arith)) ∙ c.loop-b.invariant
