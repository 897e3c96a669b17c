use Rattle.step_ready.proofs.Laws.{channels_end, channels-start, channels_turn}
use Rattle.step_ready.specs.Executing.{channels_from}
use native.Mathlib.Omega.{arith}
use mathlib.Core.Path.{ap, ◌∙◌}
use Rattle.step_ready.proofs.channels_in.Goals as goal

pub loop-k-init : goal.loop-k-init
loop-k-init c = (omega arith, channels-start c.args.t.now c.unit_length-n.result c.args.u)

pub loop-k-preserved : goal.loop-k-preserved
loop-k-preserved c = (omega (arith, c.makes-c.ensures.upper_bound), channels_turn c.args.t.now c.loop-k.c c.loop-k.k c.unit_length-n.result c.args.u _ (omega arith) c.loop-k.invariant.1 c.makes-c.ensures.value)

pub returns : goal.returns
returns c = record { value = channels_end c.args.t.now c.loop-k.c c.loop-k.k c.unit_length-n.result c.args.u _ (omega arith) c.loop-k.invariant.1 ∙ ap (λ n. channels_from c.args.t.now n c.args.u) c.unit_length-n.ensures.value; upper_bound = omega (arith, c.unit_length-n.ensures.upper_bound) }
