use native.Mathlib.Omega.{arith}
use mathlib.Core.Path.{refl, ◌≡◌, ◌∙◌}
use Rattle.link_places.proofs.Walks as laws
use Rattle.link_places.specs.Places.{close_of_lem}
use Rattle.link_places.proofs.close_of.Goals as goal

pub loop-i-init : goal.loop-i-init
unfolding close_of_lem
loop-i-init c = (omega arith, omega arith, refl)

pub returns-then-both : goal.returns-then-both
returns-then-both c = laws.close_here c.args.codes.now c.args.pair c.loop-i.i c.loop-i.d (omega arith) c.is_closing.ensures c.both.ensures c.if-both.true ∙ c.loop-i.invariant.2

pub loop-i-preserved : goal.loop-i-preserved
loop-i-preserved c = (omega (arith, c.deeper-d.ensures.upper_bound), omega arith, laws.close_more c.args.codes.now c.args.pair c.loop-i.i c.loop-i.d (omega arith) c.is_closing.ensures c.both.ensures c.if-both.false c.deeper-d.ensures.value ∙ c.loop-i.invariant.2)

pub returns : goal.returns
returns c = let e : c.max.result ≡ c.loop-i.i = omega (arith, c.max.ensures) in e ∙ laws.close_end c.args.codes.now c.args.pair c.loop-i.i c.loop-i.d (omega arith) ∙ c.loop-i.invariant.2
