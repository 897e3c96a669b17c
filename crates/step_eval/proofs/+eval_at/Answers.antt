use Rattle.step_eval.proofs.Laws.{too_high, nothing, number_arm, true_arm, false_arm, other_arm, plain_arm, index_arm, length_arm, unary_arm, decided_arm, lazy_arm, binary_arm, fault_arm, middle_arm, last_arm}
use Rattle.step_eval.proofs.+eval_at.Goals as goal

pub returns-then-h-eq0 : goal.returns-then-h-eq0
returns-then-h-eq0 t c = too_high c.args.t.now c.args.s.now c.args.p c.args.h c.args.from c.args.to c.if-h-eq0.true

pub returns-then-to-from : goal.returns-then-to-from
returns-then-to-from t c = nothing c.args.t.now c.args.s.now c.args.p c.args.h c.args.from c.args.to c.if-to-from.true

pub returns-then-decided : goal.returns-then-decided
returns-then-decided t c = decided_arm c.args.t.now c.args.s.now c.args.p c.args.h c.args.from c.args.to c.if-h-eq0.false c.if-to-from.false c.code.ensures c.node_of-n.ensures c.start-b.ensures c.eval_at-x-in-Lazy.ensures c.in-Lazy.is c.decided.ensures c.if-decided.true c.truth.ensures

pub returns-then-is_fault : goal.returns-then-is_fault
returns-then-is_fault t c = fault_arm c.args.t.now c.args.s.now c.args.p c.args.h c.args.from c.args.to c.if-h-eq0.false c.if-to-from.false c.code.ensures c.node_of-n.ensures c.in-Choice.is c.start-c.ensures c.minus_one-q.ensures c.start-b-in-Choice.ensures c.eval_at-x-in-Choice.ensures c.is_fault.ensures c.if-is_fault.true

pub returns-in-Number : goal.returns-in-Number
returns-in-Number t c = number_arm c.args.t.now c.args.s.now c.args.p c.args.h c.args.from c.args.to c.if-h-eq0.false c.if-to-from.false c.code.ensures c.node_of-n.ensures c.in-Number.is c.number.ensures.value c.kept.type_inv c.kept.ensures

pub returns-in-True : goal.returns-in-True
returns-in-True t c = true_arm c.args.t.now c.args.s.now c.args.p c.args.h c.args.from c.args.to c.if-h-eq0.false c.if-to-from.false c.code.ensures c.node_of-n.ensures c.in-True.is

pub returns-in-False : goal.returns-in-False
returns-in-False t c = false_arm c.args.t.now c.args.s.now c.args.p c.args.h c.args.from c.args.to c.if-h-eq0.false c.if-to-from.false c.code.ensures c.node_of-n.ensures c.in-False.is

pub returns-in-Plain : goal.returns-in-Plain
returns-in-Plain t c = plain_arm c.args.t.now c.args.s.now c.args.p c.args.h c.args.from c.args.to c.if-h-eq0.false c.if-to-from.false c.code.ensures c.node_of-n.ensures c.in-Plain.is c.link.ensures.value c.plain.ensures

pub returns-in-Index : goal.returns-in-Index
returns-in-Index t c = index_arm c.args.t.now c.args.s.now c.args.p c.args.h c.args.from c.args.to c.if-h-eq0.false c.if-to-from.false c.code.ensures c.node_of-n.ensures c.eval_at-x.ensures c.in-Index.is c.variable.ensures c.element.ensures c.load.ensures

pub returns-in-Length : goal.returns-in-Length
returns-in-Length t c = length_arm c.args.t.now c.args.s.now c.args.p c.args.h c.args.from c.args.to c.if-h-eq0.false c.if-to-from.false c.code.ensures c.node_of-n.ensures c.eval_at-x-in-Length.ensures c.in-Length.is c.channel.ensures c.length.ensures

pub returns-in-Unary : goal.returns-in-Unary
returns-in-Unary t c = unary_arm c.args.t.now c.args.s.now c.args.p c.args.h c.args.from c.args.to c.if-h-eq0.false c.if-to-from.false c.code.ensures c.node_of-n.ensures c.eval_at-x-in-Unary.ensures c.in-Unary.is c.unary.ensures

pub returns-else-decided : goal.returns-else-decided
returns-else-decided t c = lazy_arm c.args.t.now c.args.s.now c.args.p c.args.h c.args.from c.args.to c.if-h-eq0.false c.if-to-from.false c.code.ensures c.node_of-n.ensures c.start-b.ensures c.eval_at-x-in-Lazy.ensures c.eval_at.ensures c.in-Lazy.is c.decided.ensures c.if-decided.false c.truth-in-Lazy.ensures

pub returns-in-Binary : goal.returns-in-Binary
returns-in-Binary t c = binary_arm c.args.t.now c.args.s.now c.args.p c.args.h c.args.from c.args.to c.if-h-eq0.false c.if-to-from.false c.code.ensures c.node_of-n.ensures c.start-b-in-Binary.ensures c.eval_at-x-in-Binary.ensures c.eval_at-y.ensures c.in-Binary.is c.both.ensures

pub returns-then-holds : goal.returns-then-holds
returns-then-holds t c = middle_arm c.args.t.now c.args.s.now c.args.p c.args.h c.args.from c.args.to c.if-h-eq0.false c.if-to-from.false c.code.ensures c.node_of-n.ensures c.in-Choice.is c.start-c.ensures c.minus_one-q.ensures c.start-b-in-Choice.ensures c.eval_at-x-in-Choice.ensures c.is_fault.ensures c.if-is_fault.false c.holds.ensures c.if-holds.true c.eval_at-then-holds.ensures

pub returns-else-holds : goal.returns-else-holds
returns-else-holds t c = last_arm c.args.t.now c.args.s.now c.args.p c.args.h c.args.from c.args.to c.if-h-eq0.false c.if-to-from.false c.code.ensures c.node_of-n.ensures c.in-Choice.is c.start-c.ensures c.minus_one-q.ensures c.start-b-in-Choice.ensures c.eval_at-x-in-Choice.ensures c.is_fault.ensures c.if-is_fault.false c.holds.ensures c.if-holds.false c.eval_at-else-holds.ensures

pub returns-in-Other : goal.returns-in-Other
returns-in-Other t c = other_arm c.args.t.now c.args.s.now c.args.p c.args.h c.args.from c.args.to c.if-h-eq0.false c.if-to-from.false c.code.ensures c.node_of-n.ensures c.in-Other.is
