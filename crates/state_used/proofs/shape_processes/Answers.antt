use Rattle.state_used.specs.Shapes.{process_shaped}
use mathlib.Core.Path.{◌∙◌}
use Rattle.state_layout.proofs.Walks.{walk_more, walk_end}
use Rattle.state_used.proofs.shape_processes.Goals as goal

pub loop-p-preserved : goal.loop-p-preserved
loop-p-preserved c = walk_more (process_shaped c.args.t.now c.args.s.now) c.loop-p.p c.args.n c.loop-p-test.true c.shape_process.ensures ∙ c.loop-p.invariant

pub returns : goal.returns
returns c = walk_end (process_shaped c.args.t.now c.args.s.now) c.loop-p.p c.args.n c.loop-p.x c.loop-p-test.false ∙ c.loop-p.invariant
