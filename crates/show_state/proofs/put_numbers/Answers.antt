use mathlib.Core.Path.{sym, ◌∙◌}
use Rattle.show_state.proofs.Laws as laws
use Rattle.show_state.proofs.put_numbers.Goals as goal

pub loop-k-init : goal.loop-k-init
loop-k-init c = laws.numbers-start c.args.s.now c.args.l c.args.x c.size_of-n.result _ c.size_of-n.ensures.value

pub loop-k-preserved : goal.loop-k-preserved
loop-k-preserved c = laws.numbers_more c.args.s.now c.args.l c.args.x c.loop-k.k c.size_of-n.result _ _ _ _ _ c.loop-k-test.true c.slot.ensures c.cell.type_inv c.cell.ensures c.put-a.ensures c.put_value-q.ensures ∙ c.loop-k.invariant

pub returns : goal.returns
returns c = sym (laws.numbers_end c.args.s.now c.args.l c.args.x c.loop-k.k c.size_of-n.result _ c.loop-k-test.false) ∙ c.loop-k.invariant
