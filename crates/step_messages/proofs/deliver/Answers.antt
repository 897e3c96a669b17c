use Rattle.base_ceilings.specs.Ceilings.{fields_most}
use Rattle.step_messages.proofs.Laws.{deliver_end, deliver_over, deliver_more}
use native.Mathlib.Omega.{arith}
use mathlib.Core.Path.{refl, ◌∙◌}
use Prim.Native.Nat.{◌-◌, ◌+◌}
use Rattle.step_messages.proofs.deliver.Goals as goal

pub loop-k-init : goal.loop-k-init
loop-k-init c = refl

pub returns-then-code : goal.returns-then-code
returns-then-code c = deliver_over c.args.t.now c.args.places.now c.args.values.now (fields_most - c.loop-k.k) c.loop-k.j c.loop-k.k c.loop-k.s c.code.ensures c.if-code.true ∙ c.loop-k.invariant

pub loop-k-preserved : goal.loop-k-preserved
loop-k-preserved c = deliver_more c.args.t.now c.args.places.now c.args.values.now (fields_most - c.loop-k.k) (fields_most - (c.loop-k.k + 1)) c.loop-k.j c.loop-k.k c.loop-k.s (omega arith) c.code.ensures c.if-code.false c.link-m.ensures.value c.deliver_one.ensures ∙ c.loop-k.invariant

pub returns : goal.returns
returns c = deliver_end c.args.t.now c.args.places.now c.args.values.now (fields_most - c.loop-k.k) c.loop-k.j c.loop-k.k c.loop-k.s (omega arith) ∙ c.loop-k.invariant
