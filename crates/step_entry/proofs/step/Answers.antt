use native.Mathlib.Omega.{arith}
use Rattle.step_entry.proofs.Laws as laws
use Rattle.step_entry.proofs.step.Goals as goal

pub returns-then-printed-lt-PRINT_ROOM : goal.returns-then-printed-lt-PRINT_ROOM
returns-then-printed-lt-PRINT_ROOM c = let all = laws.no_print_room c.args.tables.now c.args.state.now c.args.process c.args.k c.args.printed.now (omega arith) in record { value = all.0; state_after = all.1.0; printed_after = all.1.1 }

pub returns-then-x-ne0 : goal.returns-then-x-ne0
returns-then-x-ne0 c = let all = laws.step_refused c.args.tables.now c.args.state.now c.args.process c.args.k c.args.printed.now (omega arith) c.refusal-x.ensures c.if-x-ne0.true in record { value = all.0; state_after = all.1.0; printed_after = all.1.1 }

pub returns-in-Step : goal.returns-in-Step
returns-in-Step c = let all = laws.one_there c.args.tables.now c.args.state.now c.args.process c.args.k c.args.printed.now (omega arith) c.refusal-x.ensures c.if-x-ne0.false c.written-w.ensures c.step_at-found.result c.step_at-found.ensures _ c.move_on.result _ _ c.in-Step.is (c.move_on.ensures.value, (c.move_on.ensures.state_after, c.move_on.ensures.printed_after)) in record { value = all.0; state_after = all.1.0; printed_after = all.1.1 }

pub returns-in-Beyond : goal.returns-in-Beyond
returns-in-Beyond c = let all = laws.none_there c.args.tables.now c.args.state.now c.args.process c.args.k c.args.printed.now (omega arith) c.refusal-x.ensures c.if-x-ne0.false c.written-w.ensures c.step_at-found.result c.step_at-found.ensures _ c.in-Beyond.is in record { value = all.0; state_after = all.1.0; printed_after = all.1.1 }
