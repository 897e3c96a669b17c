use mathlib.Core.Path.{◌∙◌}
use Rattle.state_check.specs.Standing.{channel_sound}
use Rattle.state_types.proofs.Laws.{every_more, every_stop, every_end}
use Rattle.state_check.proofs.channels_sound.Goals as goal

pub returns-then-not-channel_sound : goal.returns-then-not-channel_sound
returns-then-not-channel_sound c = every_stop (channel_sound c.args.t.now c.args.s.now) c.loop-c.c c.args.n c.loop-c-test.true c.channel_sound.ensures (c.if-not-channel_sound.true) ∙ c.loop-c.invariant

pub loop-c-preserved : goal.loop-c-preserved
loop-c-preserved c = every_more (channel_sound c.args.t.now c.args.s.now) c.loop-c.c c.args.n c.loop-c-test.true c.channel_sound.ensures (c.if-not-channel_sound.false) ∙ c.loop-c.invariant

pub returns : goal.returns
returns c = every_end (channel_sound c.args.t.now c.args.s.now) c.loop-c.c c.args.n c.loop-c-test.false ∙ c.loop-c.invariant
