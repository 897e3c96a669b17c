use mathlib.Core.Path.{◌∙◌}
use Rattle.state_types.specs.Fits.{field_fits}
use Rattle.state_types.proofs.Laws.{message-fits, every_more, every_stop, every_end}
use Rattle.state_types.proofs.message_fits.Goals as goal

pub returns-then-not-field_fits : goal.returns-then-not-field_fits
returns-then-not-field_fits c = message-fits c.args.t.now c.args.s.now c.args.c c.args.d c.args.m c.fields-n.ensures.value (every_stop (field_fits c.args.t.now c.args.s.now c.args.c c.args.d c.args.m) c.loop-f.f c.fields-n.result c.loop-f-test.true c.field_fits.ensures (c.if-not-field_fits.true) ∙ c.loop-f.invariant)

pub loop-f-preserved : goal.loop-f-preserved
loop-f-preserved c = every_more (field_fits c.args.t.now c.args.s.now c.args.c c.args.d c.args.m) c.loop-f.f c.fields-n.result c.loop-f-test.true c.field_fits.ensures (c.if-not-field_fits.false) ∙ c.loop-f.invariant

pub returns : goal.returns
returns c = message-fits c.args.t.now c.args.s.now c.args.c c.args.d c.args.m c.fields-n.ensures.value (every_end (field_fits c.args.t.now c.args.s.now c.args.c c.args.d c.args.m) c.loop-f.f c.fields-n.result c.loop-f-test.false ∙ c.loop-f.invariant)
