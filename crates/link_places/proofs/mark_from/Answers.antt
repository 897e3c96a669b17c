use native.Mathlib.Omega.{arith}
use mathlib.Core.Path.{refl, ◌≡◌, ◌∙◌}
use Prim.Native.Nat.{◌-◌}
use lib.ListN.{length, get_or}
use Rattle.rule_sheets.proofs.Walks as laws
use Rattle.link_places.specs.Places.{is_mark, mark_from}
use Rattle.link_places.proofs.mark_from.Goals as goal

pub loop-k-init : goal.loop-k-init
unfolding mark_from
loop-k-init c = (omega arith, refl)

pub returns-then-is_mark : goal.returns-then-is_mark
returns-then-is_mark c = laws.first_stop (λ n. is_mark (get_or c.args.codes.now n 0)) c.loop-k.k (length c.args.codes.now - c.loop-k.k) (omega arith) c.is_mark.ensures c.if-is_mark.true ∙ c.loop-k.invariant.1

pub loop-k-preserved : goal.loop-k-preserved
loop-k-preserved c = (omega arith, laws.first_more (λ n. is_mark (get_or c.args.codes.now n 0)) c.loop-k.k (length c.args.codes.now) (omega arith) c.is_mark.ensures c.if-is_mark.false ∙ c.loop-k.invariant.1)

pub returns : goal.returns
returns c = let e : c.max.result ≡ c.loop-k.k = omega (arith, c.max.ensures) in e ∙ laws.first_end (λ n. is_mark (get_or c.args.codes.now n 0)) c.loop-k.k (length c.args.codes.now - c.loop-k.k) (omega arith) ∙ c.loop-k.invariant.1
