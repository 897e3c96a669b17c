use Prim.Native.Nat.{◌+◌}
use mathlib.Core.Path.{sym, ◌∙◌}
use Rattle.show_state.specs.Listing as listing
use Rattle.show_state.proofs.Laws as laws
use Rattle.show_state.proofs.put_locals.Goals as goal

pub loop-k-init : goal.loop-k-init
loop-k-init c = laws.locals_start c.args.t.now c.args.s.now c.args.x c.unit_of-u.result c.unit_length-n.result _ c.unit_of-u.ensures.value c.unit_length-n.ensures.value

pub loop-k-preserved : goal.loop-k-preserved
loop-k-preserved c = laws.along-more (λ i. listing.local_in c.args.t.now c.args.s.now c.args.x (c.unit_of-u.result + i)) c.loop-k.k c.unit_length-n.result _ _ c.loop-k-test.true c.put_local-q.ensures ∙ c.loop-k.invariant

pub returns : goal.returns
returns c = sym (laws.along_end (λ i. listing.local_in c.args.t.now c.args.s.now c.args.x (c.unit_of-u.result + i)) c.loop-k.k c.unit_length-n.result _ c.loop-k-test.false) ∙ c.loop-k.invariant
