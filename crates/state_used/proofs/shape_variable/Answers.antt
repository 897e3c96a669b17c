use Rattle.state_used.proofs.Laws.{variable_all}
use Rattle.state_used.specs.Shapes.{element_shaped}
use mathlib.Core.Path.{◌∙◌}
use Rattle.state_layout.proofs.Walks.{walk_more, walk_end}
use Rattle.state_used.proofs.shape_variable.Goals as goal

pub loop-k-preserved : goal.loop-k-preserved
loop-k-preserved c = walk_more (element_shaped c.args.s.now c.args.l c.args.p) c.loop-k.k c.size_of-n.result c.loop-k-test.true c.shape_element.ensures ∙ c.loop-k.invariant

pub returns : goal.returns
returns c = variable_all c.args.s.now c.args.x.now _ c.args.l c.args.p c.size_of-n.ensures.value (walk_end (element_shaped c.args.s.now c.args.l c.args.p) c.loop-k.k c.size_of-n.result c.loop-k.x c.loop-k-test.false ∙ c.loop-k.invariant)
