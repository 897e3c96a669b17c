use Rattle.std.proofs.Common.{◌^◌, ap, ◌∙◌, lt_of_le_of_lt, Ok}
use lib.Signed.{shr_z, mag_shr}
use Rattle.base_values.specs.Operators.{shift_right_of}
use Rattle.base_values.proofs.Machine.{small, back}
use Rattle.base_values.proofs.Shifting.{shift_fails, amount, shifted}
use Rattle.base_values.proofs.shift_right.Goals as goal

pub returns-then-b : goal.returns-then-b
unfolding shift_right_of
returns-then-b c = shift_fails c.ranges.b (λ n. shr_z c.args.a (2 ^ n)) c.if-b.true

pub overflow_shr-result : goal.overflow_shr-result
unfolding shift_right_of
overflow_shr-result c = amount c.ranges.b c.if-b.false

pub returns : goal.returns
unfolding shift_right_of
returns c = rw (back c.ranges.a) (ap Ok (back (small (lt_of_le_of_lt (mag_shr c.args.a _) c.ranges.a.sfits))) ∙ shifted c.ranges.b c.if-b.false (λ n. shr_z c.args.a (2 ^ n)))
