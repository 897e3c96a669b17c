use Prim.Native.Nat.{◌+◌}
use mathlib.Core.Path.{◌∙◌}
use Rattle.state_types.specs.Fits.{local_fits}
use Rattle.state_types.proofs.Laws.{locals_fit_lem, every_more, every_stop, every_end}
use Rattle.state_types.proofs.locals_fit.Goals as goal

pub returns-then-not-local_fits : goal.returns-then-not-local_fits
returns-then-not-local_fits c = locals_fit_lem c.args.t.now c.args.s.now c.args.p c.args.u c.unit_length-n.ensures.value (every_stop (λ i. local_fits c.args.t.now c.args.s.now c.args.p (c.args.u + i)) c.loop-k.k c.unit_length-n.result c.loop-k-test.true c.local_fits.ensures (c.if-not-local_fits.true) ∙ c.loop-k.invariant)

pub loop-k-preserved : goal.loop-k-preserved
loop-k-preserved c = every_more (λ i. local_fits c.args.t.now c.args.s.now c.args.p (c.args.u + i)) c.loop-k.k c.unit_length-n.result c.loop-k-test.true c.local_fits.ensures (c.if-not-local_fits.false) ∙ c.loop-k.invariant

pub returns : goal.returns
returns c = locals_fit_lem c.args.t.now c.args.s.now c.args.p c.args.u c.unit_length-n.ensures.value (every_end (λ i. local_fits c.args.t.now c.args.s.now c.args.p (c.args.u + i)) c.loop-k.k c.unit_length-n.result c.loop-k-test.false ∙ c.loop-k.invariant)
