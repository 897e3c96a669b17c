use Rattle.state_used.proofs.Laws.{message-all}
use Rattle.state_used.specs.Shapes.{field_shaped}
use mathlib.Core.Path.{◌∙◌}
use Rattle.state_layout.proofs.Walks.{walk_more, walk_end}
use Rattle.state_used.proofs.shape_message.Goals as goal

pub loop-f-preserved : goal.loop-f-preserved
loop-f-preserved c = walk_more (field_shaped c.args.s.now c.args.c c.args.m) c.loop-f.f c.fields-n.result c.loop-f-test.true c.shape_field.ensures ∙ c.loop-f.invariant

pub returns : goal.returns
returns c = message-all c.args.t.now c.args.s.now c.args.x.now c.args.c c.args.d c.args.m c.fields-n.ensures.value (walk_end (field_shaped c.args.s.now c.args.c c.args.m) c.loop-f.f c.fields-n.result c.loop-f.x c.loop-f-test.false ∙ c.loop-f.invariant)
