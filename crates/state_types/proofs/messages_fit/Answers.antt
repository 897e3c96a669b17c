use mathlib.Core.Path.{◌∙◌}
use Rattle.state_types.specs.Fits.{message_fits}
use Rattle.state_types.proofs.Laws.{every_more, every_stop, every_end}
use Rattle.state_types.proofs.messages_fit.Goals as goal

pub returns-then-not-message_fits : goal.returns-then-not-message_fits
returns-then-not-message_fits c = every_stop (message_fits c.args.t.now c.args.s.now c.args.c c.args.d) c.loop-m.m c.args.n c.loop-m-test.true c.message_fits.ensures (c.if-not-message_fits.true) ∙ c.loop-m.invariant

pub loop-m-preserved : goal.loop-m-preserved
loop-m-preserved c = every_more (message_fits c.args.t.now c.args.s.now c.args.c c.args.d) c.loop-m.m c.args.n c.loop-m-test.true c.message_fits.ensures (c.if-not-message_fits.false) ∙ c.loop-m.invariant

pub returns : goal.returns
returns c = every_end (message_fits c.args.t.now c.args.s.now c.args.c c.args.d) c.loop-m.m c.args.n c.loop-m-test.false ∙ c.loop-m.invariant
