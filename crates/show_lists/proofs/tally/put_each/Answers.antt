use native.Mathlib.Omega.{arith}
use mathlib.Core.Path.{sym, ◌∙◌}
use Rattle.show_lists.proofs.Laws as laws
use Rattle.show_lists.proofs.tally.put_each.Goals as goal

pub loop-k-init : goal.loop-k-init
loop-k-init c = laws.each_start _ _ _

pub loop-k-preserved : goal.loop-k-preserved
loop-k-preserved c = sym (laws.each_more c.args.kept.now c.loop-k.k c.args.m _ _ _ _ (omega arith) c.word_at.ensures.value c.put-a.ensures c.put_number-q.ensures) ∙ c.loop-k.invariant

pub returns : goal.returns
returns c = sym (laws.each_end c.args.kept.now c.loop-k.k c.args.m _ (omega arith)) ∙ c.loop-k.invariant
