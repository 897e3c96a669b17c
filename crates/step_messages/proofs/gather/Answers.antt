use Rattle.std.specs.Prelude.{Err}
use Rattle.base_ceilings.specs.Ceilings.{numbers_most}
use Rattle.step_messages.proofs.Laws.{gather_end_lem, gather_over, gather_fault, gather_more}
use borrow.Author.Rules.{rules}
use native.Mathlib.Omega.{arith}
use mathlib.Core.Path.{◌≡◌, refl, ◌∙◌}
use Prim.Native.Nat.{◌-◌, ◌+◌}
use Rattle.step_messages.proofs.gather.Goals as goal

pub loop-k-init : goal.loop-k-init
loop-k-init c = (refl, refl)

pub returns-then-code : goal.returns-then-code
returns-then-code c = let g = gather_over c.args.t.now c.args.s.now c.args.p (numbers_most - c.loop-k.k) c.loop-k.j c.loop-k.k c.loop-k.values c.code.ensures c.if-code.true in record { value = g.0 ∙ c.loop-k.invariant.0; values_after = g.1 ∙ c.loop-k.invariant.1 }

pub returns-in_err-v : goal.returns-in_err-v
returns-in_err-v c = let e : c.from_residual.result ≡ Err c.in_err-v.field-0.0 = search rules in let g = gather_fault c.args.t.now c.args.s.now c.args.p (numbers_most - c.loop-k.k) (numbers_most - (c.loop-k.k + 1)) c.loop-k.j c.loop-k.k c.loop-k.values (omega arith) c.code.ensures c.if-code.false c.link-m.ensures.value c.eval.ensures (search rules) in record { value = e ∙ g.0 ∙ c.loop-k.invariant.0; values_after = g.1 ∙ c.loop-k.invariant.1 }

pub loop-k-preserved : goal.loop-k-preserved
loop-k-preserved c = let g = gather_more c.args.t.now c.args.s.now c.args.p (numbers_most - c.loop-k.k) (numbers_most - (c.loop-k.k + 1)) c.loop-k.j c.loop-k.k c.loop-k.values (omega arith) c.code.ensures c.if-code.false c.link-m.ensures.value c.eval.ensures {v = c.in_ok-v.v} (search rules) (search rules) c.put.ensures in (g.0 ∙ c.loop-k.invariant.0, g.1 ∙ c.loop-k.invariant.1)

pub returns : goal.returns
returns c = let g = gather_end_lem c.args.t.now c.args.s.now c.args.p (numbers_most - c.loop-k.k) c.loop-k.j c.loop-k.k c.loop-k.values (omega arith) in record { value = g.0 ∙ c.loop-k.invariant.0; values_after = g.1 ∙ c.loop-k.invariant.1 }
