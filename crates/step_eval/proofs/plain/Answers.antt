use native.Mathlib.Omega.{arith}
use Rattle.step_eval.proofs.Laws.{plain_message, plain_pid, plain_variable}
use Rattle.step_eval.proofs.plain.Goals as goal

pub returns-in-220 : goal.returns-in-220
returns-in-220 c = plain_message c.args.t.now c.args.s.now c.args.p c.args.d c.code.ensures c.in-220.is c.link.ensures.value c.kept.type_inv c.kept.ensures

pub returns-in-70 : goal.returns-in-70
returns-in-70 c = plain_pid c.args.t.now c.args.s.now c.args.p c.args.d c.code.ensures c.in-70.is (omega arith)

pub returns-in_default : goal.returns-in_default
returns-in_default c = plain_variable c.args.t.now c.args.s.now c.args.p c.args.d c.code.ensures c.in_default.in_default-own.rest.0.1 c.in_default.in_default-own.rest.1 c.link-in_default.ensures.value c.slot.ensures c.cell.type_inv c.cell.ensures
