use Rattle.step_take.proofs.Laws.{called-all}
use Rattle.step_take.specs.Effects.{parameter_set}
use Rattle.state_layout.proofs.Walks.{walk_more, walk_end}
use mathlib.Core.Path.{◌∙◌}
use Prim.Native.Nat.{◌+◌}
use Rattle.step_take.proofs.call.Goals as goal

pub loop-k-preserved : goal.loop-k-preserved
loop-k-preserved c = walk_more (λ i x. parameter_set c.args.t.now c.processes-p.result c.args.values.now (c.args.u + i) x) c.loop-k.k c.unit_length-n.result c.loop-k-test.true c.set_parameter.ensures ∙ c.loop-k.invariant

pub returns : goal.returns
returns c = called-all c.args.t.now c.args.u c.args.values.now c.args.s.now c.make_process.new.s c.loop-k.s c.processes-p.ensures.value c.make_process.ensures c.unit_length-n.ensures.value (walk_end (λ i x. parameter_set c.args.t.now c.processes-p.result c.args.values.now (c.args.u + i) x) c.loop-k.k c.unit_length-n.result c.loop-k.s c.loop-k-test.false ∙ c.loop-k.invariant)
