use native.Mathlib.Omega.{arith}
use Rattle.step_all.proofs.Laws as laws
use Rattle.step_all.proofs.step_at.Goals as goal

pub returns-then-processes-process : goal.returns-then-processes-process
returns-then-processes-process c = laws.no_process_lem c.args.t.now c.args.s.now c.processes.result c.args.process c.args.k c.processes.ensures.value (omega arith)

pub returns-then-k-eq0 : goal.returns-then-k-eq0
returns-then-k-eq0 c = laws.no_step c.args.t.now c.args.s.now c.args.process c.args.k c.if-k-eq0.true

pub returns-in-Found : goal.returns-in-Found
returns-in-Found c = laws.step_found c.args.t.now c.args.s.now c.processes.result c.args.process c.args.k c.processes.ensures.value (omega arith) c.if-k-eq0.false c.offered-w.ensures c.in-Found.field-0 c.in-Found.is c.offer_of.ensures

pub returns-then-is_any : goal.returns-then-is_any
returns-then-is_any c = laws.step-none c.args.t.now c.args.s.now c.processes.result c.args.process c.args.k c.processes.ensures.value (omega arith) c.if-k-eq0.false c.offered-w.ensures _ c.in-Left.is c.is_any.ensures c.if-is_any.true

pub returns-else-is_any : goal.returns-else-is_any
returns-else-is_any c = laws.step-late c.args.t.now c.args.s.now c.processes.result c.args.process c.args.k c.processes.ensures.value (omega arith) c.if-k-eq0.false c.offered-w.ensures _ c.in-Left.is c.is_any.ensures c.if-is_any.false c.offered.ensures c.offer_of-else-is_any.ensures
