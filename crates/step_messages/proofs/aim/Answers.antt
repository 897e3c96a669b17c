use Rattle.std.specs.Prelude.{Err}
use Rattle.base_ceilings.specs.Ceilings.{fields_most}
use Rattle.step_messages.proofs.Laws.{aim_end_lem, aim-over, aim-fault, aim-more}
use borrow.Author.Rules.{rules}
use native.Mathlib.Omega.{arith}
use mathlib.Core.Path.{◌≡◌, refl, ◌∙◌}
use Prim.Native.Nat.{◌-◌, ◌+◌}
use Rattle.step_messages.proofs.aim.Goals as goal

pub loop-k-init : goal.loop-k-init
loop-k-init c = (refl, refl)

pub returns-then-code : goal.returns-then-code
returns-then-code c = let g = aim-over c.args.t.now c.args.s.now c.args.p (fields_most - c.loop-k.k) c.loop-k.j c.loop-k.k c.loop-k.places c.code.ensures c.if-code.true in record { value = g.0 ∙ c.loop-k.invariant.0; places_after = g.1 ∙ c.loop-k.invariant.1 }

pub returns-in_err-i : goal.returns-in_err-i
returns-in_err-i c = let e : c.from_residual.result ≡ Err c.in_err-i.field-0.0 = search rules in let g = aim-fault c.args.t.now c.args.s.now c.args.p (fields_most - c.loop-k.k) (fields_most - (c.loop-k.k + 1)) c.loop-k.j c.loop-k.k c.loop-k.places (omega arith) c.code.ensures c.if-code.false c.link-m.ensures.value c.aim_at.ensures (search rules) in record { value = e ∙ g.0 ∙ c.loop-k.invariant.0; places_after = g.1 ∙ c.loop-k.invariant.1 }

pub loop-k-preserved : goal.loop-k-preserved
loop-k-preserved c = let g = aim-more c.args.t.now c.args.s.now c.args.p (fields_most - c.loop-k.k) (fields_most - (c.loop-k.k + 1)) c.loop-k.j c.loop-k.k c.loop-k.places (omega arith) c.code.ensures c.if-code.false c.link-m.ensures.value c.aim_at.ensures (search rules) c.note.ensures in (g.0 ∙ c.loop-k.invariant.0, g.1 ∙ c.loop-k.invariant.1)

pub returns : goal.returns
returns c = let g = aim_end_lem c.args.t.now c.args.s.now c.args.p (fields_most - c.loop-k.k) c.loop-k.j c.loop-k.k c.loop-k.places (omega arith) in record { value = g.0 ∙ c.loop-k.invariant.0; places_after = g.1 ∙ c.loop-k.invariant.1 }
