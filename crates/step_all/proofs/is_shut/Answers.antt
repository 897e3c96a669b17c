use Rattle.std.specs.Prelude.{Ok}
use native.Mathlib.Omega.{arith}
use mathlib.Core.Path.{refl, ap}
use Rattle.step_eval.proofs.Laws.{holds_value}
use Rattle.step_all.proofs.Shut.{not-told, shut}
use Rattle.step_all.proofs.is_shut.Goals as goal

pub returns-then-code-ne-NAME : goal.returns-then-code-ne-NAME
returns-then-code-ne-NAME c = not-told c.args.t.now c.args.s.now c.args.q

pub returns-then-m-q : goal.returns-then-m-q
returns-then-m-q c = not-told c.args.t.now c.args.s.now c.args.q

pub returns-then-code : goal.returns-then-code
returns-then-code c = not-told c.args.t.now c.args.s.now c.args.q

pub returns-then-code-2 : goal.returns-then-code-2
returns-then-code-2 c = not-told c.args.t.now c.args.s.now c.args.q

pub returns-then-c : goal.returns-then-c
returns-then-c c = not-told c.args.t.now c.args.s.now c.args.q

pub returns-then-c-eq-NAME : goal.returns-then-c-eq-NAME
returns-then-c-eq-NAME c = not-told c.args.t.now c.args.s.now c.args.q

pub returns-then-l-ne0 : goal.returns-then-l-ne0
returns-then-l-ne0 c = not-told c.args.t.now c.args.s.now c.args.q

pub returns : goal.returns
returns c = shut c.args.t.now c.args.s.now c.args.q _ c.code.ensures c.if-code-ne-NAME.false c.link-m.ensures.value (omega arith) c.code-2.ensures c.if-code.false c.code-3.ensures c.if-code-2.false c.link-d.ensures.value c.code-c.ensures c.if-c.false c.if-c-eq-NAME.false c.link-l.ensures.value c.if-l-ne0.false c.slot.ensures (ap Ok c.cell.ensures) (holds_value {x = Ok c.cell.result} refl c.cell.type_inv)
