use Rattle.state_used.specs.Shapes.{message_shaped}
use mathlib.Core.Path.{◌∙◌}
use Rattle.state_layout.proofs.Walks.{walk_more, walk_end}
use Rattle.state_used.proofs.shape_messages.Goals as goal

pub loop-m-preserved : goal.loop-m-preserved
loop-m-preserved c = walk_more (message_shaped c.args.t.now c.args.s.now c.args.c c.args.d) c.loop-m.m c.args.n c.loop-m-test.true c.shape_message.ensures ∙ c.loop-m.invariant

pub returns : goal.returns
returns c = walk_end (message_shaped c.args.t.now c.args.s.now c.args.c c.args.d) c.loop-m.m c.args.n c.loop-m.x c.loop-m-test.false ∙ c.loop-m.invariant
