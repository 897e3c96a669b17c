use Rattle.write_texts.proofs.Stack as laws
use Rattle.write_texts.proofs.step.Goals as goal

pub returns-then-c-eq0 : goal.returns-then-c-eq0
returns-then-c-eq0 c = laws.step-none c.args.stack.now c.args.sp c.args.s c.args.c c.args.i c.if-c-eq0.true

pub returns-then-is_binary : goal.returns-then-is_binary
returns-then-is_binary c = laws.step_binary c.args.stack.now _ c.args.sp _ c.args.s c.args.c c.args.i _ _ c.is_binary.ensures c.if-is_binary.true c.operator.ensures c.operate.ensures

pub returns-else-is_binary : goal.returns-else-is_binary
returns-else-is_binary c = laws.step_row c.args.stack.now _ c.args.sp _ c.args.s c.args.c c.args.i _ _ c.is_binary.ensures c.if-is_binary.false c.row_of.ensures.value c.lay.ensures
