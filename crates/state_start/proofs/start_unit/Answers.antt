use Rattle.state_start.proofs.Laws.{unit-all}
use Rattle.state_start.specs.Starting.{process_made}
use Rattle.state_layout.proofs.Walks.{walk_more, walk_end}
use mathlib.Core.Path.{◌∙◌}
use Rattle.state_start.proofs.start_unit.Goals as goal

pub loop-k-preserved : goal.loop-k-preserved
loop-k-preserved c = walk_more (λ i x. process_made c.args.t.now c.args.j x) c.loop-k._k c.least-n.result c.loop-k-test.true c.make_process.ensures ∙ c.loop-k.invariant

pub returns : goal.returns
returns c = unit-all c.args.t.now c.args.j c.args.s.now c.loop-k.s c.starts_of.ensures c.least-n.ensures (walk_end (λ i x. process_made c.args.t.now c.args.j x) c.loop-k._k c.least-n.result c.loop-k.s c.loop-k-test.false ∙ c.loop-k.invariant)
