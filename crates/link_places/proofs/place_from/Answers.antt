use native.Mathlib.Omega.{arith}
use mathlib.Core.Path.{refl, ◌≡◌, ◌∙◌}
use Prim.Native.Nat.{◌-◌}
use lib.ListN.{length}
use Rattle.rule_sheets.proofs.Walks as laws
use Rattle.link_places.specs.Places.{is_stop, place_from}
use Rattle.link_places.proofs.place_from.Goals as goal

pub loop-i-init : goal.loop-i-init
unfolding place_from
loop-i-init c = (omega arith, refl)

pub returns-then-is_stop : goal.returns-then-is_stop
returns-then-is_stop c = laws.first_stop (is_stop c.args.codes.now) c.loop-i.i (length c.args.codes.now - c.loop-i.i) (omega arith) c.is_stop.ensures c.if-is_stop.true ∙ c.loop-i.invariant.1

pub loop-i-preserved : goal.loop-i-preserved
loop-i-preserved c = (omega arith, laws.first_more (is_stop c.args.codes.now) c.loop-i.i (length c.args.codes.now) (omega arith) c.is_stop.ensures c.if-is_stop.false ∙ c.loop-i.invariant.1)

pub returns : goal.returns
returns c = let e : c.max.result ≡ c.loop-i.i = omega (arith, c.max.ensures) in e ∙ laws.first_end (is_stop c.args.codes.now) c.loop-i.i (length c.args.codes.now - c.loop-i.i) (omega arith) ∙ c.loop-i.invariant.1
