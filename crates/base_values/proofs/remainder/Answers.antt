use Rattle.std.proofs.Common.{ap, lt_of_le_of_lt, Ok}
use lib.Signed.{rem_z, mag_rem}
use Rattle.base_values.specs.Operators.{remainder_of}
use Rattle.base_values.proofs.Dividing.{by_zero, not_by_zero, is_least, given, asks}
use Rattle.base_values.proofs.remainder.Goals as goal

pub returns-then-b-eq0 : goal.returns-then-b-eq0
unfolding remainder_of
returns-then-b-eq0 c = rw (by_zero c.ranges.b c.if-b-eq0.true)

pub returns-then-a-b : goal.returns-then-a-b
unfolding remainder_of
returns-then-a-b c = let p = is_least c.ranges.a c.ranges.b c.if-a-b.true in rw (p.0, p.1)

pub nonzero_rem-result : goal.nonzero_rem-result
unfolding remainder_of
nonzero_rem-result c = asks c.ranges.a c.ranges.b c.if-a-b.false c.if-b-eq0.false

pub returns : goal.returns
unfolding remainder_of
returns c = rw (not_by_zero c.ranges.b c.if-b-eq0.false) (ap Ok (given c.ranges.a c.ranges.b rem_z (lt_of_le_of_lt (mag_rem c.args.a c.args.b) c.ranges.a.sfits)))
