use Rattle.step_prints.proofs.Laws.{number-below, number-above}
use Rattle.step_prints.specs.Printing.{pen}
use Rattle.step_prints.proofs.put_number.Goals as goal

pub returns-then-v-lt0 : goal.returns-then-v-lt0
returns-then-v-lt0 c = number-below c.args.v c.ranges.v (pen c.args.out.now c.args.w) c.size_of.ensures c.if-v-lt0.true c.put-q.ensures c.digits.ensures

pub returns-else-v-lt0 : goal.returns-else-v-lt0
returns-else-v-lt0 c = number-above c.args.v c.ranges.v (pen c.args.out.now c.args.w) c.size_of-else-v-lt0.ensures c.if-v-lt0.false c.digits-else-v-lt0.ensures
