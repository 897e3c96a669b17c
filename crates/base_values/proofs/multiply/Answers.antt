use Rattle.std.proofs.Common.{◌*ℤ◌}
use Rattle.base_values.proofs.Wrapping.{widens, wraps, product_fits, product_bits}
use Rattle.base_values.proofs.multiply.Goals as goal

pub overflow_cast-a : goal.overflow_cast-a
overflow_cast-a c = widens c.ranges.a

pub overflow_cast-b : goal.overflow_cast-b
overflow_cast-b c = widens c.ranges.b

pub overflow_mul-a : goal.overflow_mul-a
overflow_mul-a c = product_fits c.ranges.a c.ranges.b

pub returns : goal.returns
returns c = wraps (c.args.a *ℤ c.args.b) c.value_of.type_inv c.value_of.ensures (product_bits c.ranges.a c.ranges.b c.bits_of.ensures)
