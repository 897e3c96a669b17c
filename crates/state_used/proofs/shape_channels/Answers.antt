use Rattle.state_used.specs.Shapes.{channel_shaped}
use mathlib.Core.Path.{◌∙◌}
use Rattle.state_layout.proofs.Walks.{walk_more, walk_end}
use Rattle.state_used.proofs.shape_channels.Goals as goal

pub loop-c-preserved : goal.loop-c-preserved
loop-c-preserved c = walk_more (channel_shaped c.args.t.now c.args.s.now) c.loop-c.c c.args.n c.loop-c-test.true c.shape_channel.ensures ∙ c.loop-c.invariant

pub returns : goal.returns
returns c = walk_end (channel_shaped c.args.t.now c.args.s.now) c.loop-c.c c.args.n c.loop-c.x c.loop-c-test.false ∙ c.loop-c.invariant
