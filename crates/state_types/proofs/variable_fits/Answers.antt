use mathlib.Core.Path.{◌∙◌}
use Rattle.state_types.specs.Fits.{element_fits}
use Rattle.state_types.proofs.Laws.{variable_fits_lem, every_more, every_stop, every_end}
use Rattle.state_types.proofs.variable_fits.Goals as goal

pub returns-then-not-element_fits : goal.returns-then-not-element_fits
returns-then-not-element_fits c = variable_fits_lem c.args.s.now c.args.l c.args.p c.size_of-n.ensures.value (every_stop (element_fits c.args.s.now c.args.l c.args.p) c.loop-k.k c.size_of-n.result c.loop-k-test.true c.element_fits.ensures (c.if-not-element_fits.true) ∙ c.loop-k.invariant)

pub loop-k-preserved : goal.loop-k-preserved
loop-k-preserved c = every_more (element_fits c.args.s.now c.args.l c.args.p) c.loop-k.k c.size_of-n.result c.loop-k-test.true c.element_fits.ensures (c.if-not-element_fits.false) ∙ c.loop-k.invariant

pub returns : goal.returns
returns c = variable_fits_lem c.args.s.now c.args.l c.args.p c.size_of-n.ensures.value (every_end (element_fits c.args.s.now c.args.l c.args.p) c.loop-k.k c.size_of-n.result c.loop-k-test.false ∙ c.loop-k.invariant)
