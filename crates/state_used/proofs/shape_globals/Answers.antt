use Rattle.state_used.specs.Shapes.{global_shaped}
use mathlib.Core.Path.{◌∙◌}
use Rattle.state_layout.proofs.Walks.{walk_more, walk_end}
use Rattle.state_used.proofs.shape_globals.Goals as goal

pub loop-j-preserved : goal.loop-j-preserved
loop-j-preserved c = walk_more (global_shaped c.args.t.now c.args.s.now) c.loop-j.j c.args.n c.loop-j-test.true c.shape_global.ensures ∙ c.loop-j.invariant

pub returns : goal.returns
returns c = walk_end (global_shaped c.args.t.now c.args.s.now) c.loop-j.j c.args.n c.loop-j.x c.loop-j-test.false ∙ c.loop-j.invariant
