use Rattle.show_words.proofs.Laws as laws
use Rattle.show_words.proofs.put_value.Goals as goal

pub returns-then-v-lt0 : goal.returns-then-v-lt0
returns-then-v-lt0 c = laws.value_below c.args.v c.ranges.v c.size_of.ensures _ c.if-v-lt0.true c.put-q.ensures c.put_digits.ensures

pub returns-else-v-lt0 : goal.returns-else-v-lt0
returns-else-v-lt0 c = laws.value_above c.args.v c.ranges.v c.size_of-else-v-lt0.ensures _ c.if-v-lt0.false c.put_digits-else-v-lt0.ensures
