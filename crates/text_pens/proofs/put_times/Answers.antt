use Rattle.base_pens.proofs.Pen as laws
use mathlib.Core.Path.{◌≡◌, refl, sym, ◌∙◌}
use native.Mathlib.Omega.{arith}
use Prim.Native.Nat.{◌-◌}
use Rattle.text_pens.proofs.put_times.Goals as goal

pub loop-init : goal.loop-init
loop-init c = let e : c.args.n - 0 ≡ c.args.n = omega arith in rw e refl

pub loop-preserved : goal.loop-preserved
loop-preserved c = laws.times_more c.args.n c.loop.counter c.args.b _ _ c.loop-test.true c.put-q.ensures ∙ c.loop.invariant

pub returns : goal.returns
returns c = sym (laws.times_end c.args.n c.loop.counter c.args.b _ (omega arith)) ∙ c.loop.invariant
