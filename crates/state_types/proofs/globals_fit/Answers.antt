use mathlib.Core.Path.{◌∙◌}
use Rattle.state_types.specs.Fits.{global_fits}
use Rattle.state_types.proofs.Laws.{every_more, every_stop, every_end}
use Rattle.state_types.proofs.globals_fit.Goals as goal

pub returns-then-not-global_fits : goal.returns-then-not-global_fits
returns-then-not-global_fits c = every_stop (global_fits c.args.t.now c.args.s.now) c.loop-j.j c.args.n c.loop-j-test.true c.global_fits.ensures (c.if-not-global_fits.true) ∙ c.loop-j.invariant

pub loop-j-preserved : goal.loop-j-preserved
loop-j-preserved c = every_more (global_fits c.args.t.now c.args.s.now) c.loop-j.j c.args.n c.loop-j-test.true c.global_fits.ensures (c.if-not-global_fits.false) ∙ c.loop-j.invariant

pub returns : goal.returns
returns c = every_end (global_fits c.args.t.now c.args.s.now) c.loop-j.j c.args.n c.loop-j-test.false ∙ c.loop-j.invariant
