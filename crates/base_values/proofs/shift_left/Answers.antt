use Rattle.std.proofs.Common.{◌^◌, pos, ◌*ℤ◌, ap, ◌∙◌, Ok}
use Rattle.base_values.specs.Operators.{shift_left_of}
use Rattle.base_values.specs.Bits.{wrap32}
use Rattle.base_values.proofs.Wrapping.{left_bits}
use Rattle.base_values.proofs.Shifting.{shift_fails, amount, shifted}
use Rattle.base_values.proofs.shift_left.Goals as goal

pub returns-then-b : goal.returns-then-b
unfolding shift_left_of
returns-then-b c = shift_fails c.ranges.b (λ n. wrap32 (c.args.a *ℤ pos (2 ^ n))) c.if-b.true

pub overflow_shl-result : goal.overflow_shl-result
unfolding shift_left_of
overflow_shl-result c = amount c.ranges.b c.if-b.false

pub returns : goal.returns
unfolding shift_left_of
returns c = ap Ok (left_bits _ c.ranges.a) ∙ shifted c.ranges.b c.if-b.false (λ n. wrap32 (c.args.a *ℤ pos (2 ^ n)))
