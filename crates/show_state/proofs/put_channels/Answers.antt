use mathlib.Core.Path.{sym, ◌∙◌}
use Rattle.show_state.specs.Listing as listing
use Rattle.show_state.proofs.Laws as laws
use Rattle.show_state.proofs.put_channels.Goals as goal

pub loop-c-init : goal.loop-c-init
loop-c-init c = laws.along-start (listing.channel_in c.args.t.now c.args.s.now) c.channels-n.result _ _ c.channels-n.ensures.value

pub loop-c-preserved : goal.loop-c-preserved
loop-c-preserved c = laws.along-more (listing.channel_in c.args.t.now c.args.s.now) c.loop-c.c c.channels-n.result _ _ c.loop-c-test.true c.put_channel-q.ensures ∙ c.loop-c.invariant

pub returns : goal.returns
returns c = sym (laws.along_end (listing.channel_in c.args.t.now c.args.s.now) c.loop-c.c c.channels-n.result _ c.loop-c-test.false) ∙ c.loop-c.invariant
