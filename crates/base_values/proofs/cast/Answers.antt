use Rattle.base_values.proofs.Casts.{cast_whole, mask_fits, cast_unsigned, cast_lower, cast_upper_fits, cast_upper}
use Rattle.base_values.proofs.cast.Goals as goal

pub returns-then-w-gt16 : goal.returns-then-w-gt16
returns-then-w-gt16 c = cast_whole c.args.ty c.ranges.v c.width-w.ensures c.if-w-gt16.true

pub overflow_sub-u : goal.overflow_sub-u
overflow_sub-u c = mask_fits c.args.ty c.ranges.v c.width-w.ensures c.if-w-gt16.false

pub returns-then-w-lt16 : goal.returns-then-w-lt16
returns-then-w-lt16 c = cast_unsigned c.args.ty c.ranges.v c.width-w.ensures c.if-w-gt16.false c.if-w-lt16.true

pub overflow_sub-result : goal.overflow_sub-result
overflow_sub-result c = cast_upper_fits c.args.ty c.ranges.v c.width-w.ensures c.if-w-gt16.false c.if-w-lt16.false

pub returns-then-u-lt32768 : goal.returns-then-u-lt32768
returns-then-u-lt32768 c = cast_lower c.args.ty c.ranges.v c.width-w.ensures c.if-w-gt16.false c.if-w-lt16.false c.if-u-lt32768.true

pub returns-else-u-lt32768 : goal.returns-else-u-lt32768
returns-else-u-lt32768 c = cast_upper c.args.ty c.ranges.v c.width-w.ensures c.if-w-gt16.false c.if-w-lt16.false c.if-u-lt32768.false
