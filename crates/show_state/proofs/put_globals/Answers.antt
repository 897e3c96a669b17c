use mathlib.Core.Path.{sym, ◌∙◌}
use Rattle.show_state.specs.Listing as listing
use Rattle.show_state.proofs.Laws as laws
use Rattle.show_state.proofs.put_globals.Goals as goal

pub loop-j-init : goal.loop-j-init
loop-j-init c = laws.along-start (listing.global_in c.args.t.now c.args.s.now) c.items-n.result _ _ c.items-n.ensures.value

pub loop-j-preserved : goal.loop-j-preserved
loop-j-preserved c = laws.along-more (listing.global_in c.args.t.now c.args.s.now) c.loop-j.j c.items-n.result _ _ c.loop-j-test.true c.put_global-q.ensures ∙ c.loop-j.invariant

pub returns : goal.returns
returns c = sym (laws.along_end (listing.global_in c.args.t.now c.args.s.now) c.loop-j.j c.items-n.result _ c.loop-j-test.false) ∙ c.loop-j.invariant
