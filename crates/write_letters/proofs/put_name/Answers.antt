use Rattle.write_letters.proofs.Tokens as laws
use mathlib.Core.Path.{sym, ◌∙◌}
use Rattle.write_letters.proofs.put_name.Goals as goal

pub loop-k-init : goal.loop-k-init
loop-k-init c = laws.name-start c.args.t.now c.args.i c.name_length-n.result _ c.name_length-n.ensures.value

pub loop-k-preserved : goal.loop-k-preserved
loop-k-preserved c = laws.name-more c.args.t.now c.args.i c.loop-k.k c.name_length-n.result _ _ _ c.loop-k-test.true c.name_byte.ensures c.put-q.ensures ∙ c.loop-k.invariant

pub returns : goal.returns
returns c = sym (laws.name_end c.args.t.now c.args.i c.loop-k.k c.name_length-n.result _ c.loop-k-test.false) ∙ c.loop-k.invariant
