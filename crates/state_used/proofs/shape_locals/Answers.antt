use Rattle.state_used.proofs.Laws.{locals_all}
use Rattle.state_used.specs.Shapes.{local_shaped}
use Prim.Native.Nat.{◌+◌}
use mathlib.Core.Path.{◌∙◌}
use Rattle.state_layout.proofs.Walks.{walk_more, walk_end}
use Rattle.state_used.proofs.shape_locals.Goals as goal

pub loop-k-preserved : goal.loop-k-preserved
loop-k-preserved c = walk_more (λ i y. local_shaped c.args.t.now c.args.s.now c.args.p (c.args.u + i) y) c.loop-k.k c.unit_length-n.result c.loop-k-test.true c.shape_local.ensures ∙ c.loop-k.invariant

pub returns : goal.returns
returns c = locals_all c.args.t.now c.args.s.now c.args.x.now c.args.p c.args.u c.unit_length-n.ensures.value (walk_end (λ i y. local_shaped c.args.t.now c.args.s.now c.args.p (c.args.u + i) y) c.loop-k.k c.unit_length-n.result c.loop-k.x c.loop-k-test.false ∙ c.loop-k.invariant)
