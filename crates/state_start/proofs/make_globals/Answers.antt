use Rattle.state_start.specs.Starting.{global_made}
use Rattle.state_layout.proofs.Walks.{walk_more, walk_end}
use mathlib.Core.Path.{◌∙◌}
use Rattle.state_start.proofs.make_globals.Goals as goal

pub loop-j-preserved : goal.loop-j-preserved
loop-j-preserved c = walk_more (global_made c.args.t.now) c.loop-j.j c.args.n c.loop-j-test.true c.make_global.ensures ∙ c.loop-j.invariant

pub returns : goal.returns
returns c = walk_end (global_made c.args.t.now) c.loop-j.j c.args.n c.loop-j.s c.loop-j-test.false ∙ c.loop-j.invariant
