use Rattle.step_prints.proofs.Laws.{size_below, size_above}
use Rattle.step_prints.proofs.size_of.Goals as goal

pub returns-then-v-lt0 : goal.returns-then-v-lt0
returns-then-v-lt0 c = size_below c.args.v c.ranges.v c.if-v-lt0.true c.apply_unary.type_inv c.apply_unary.ensures c.natural.ensures.value

pub returns-else-v-lt0 : goal.returns-else-v-lt0
returns-else-v-lt0 c = size_above c.args.v c.ranges.v c.if-v-lt0.false c.natural-else-v-lt0.ensures.value
