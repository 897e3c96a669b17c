use Rattle.std.proofs.Common.{sym, ap, ◌∙◌, Ok}
use lib.Signed.{quot_z}
use Rattle.base_values.specs.Operators.{divide_of}
use Rattle.base_values.proofs.Wrap.{wrap_id}
use Rattle.base_values.proofs.Dividing.{by_zero, not_by_zero, is_least, given, quot_small, asks}
use Rattle.base_values.proofs.divide.Goals as goal

pub returns-then-b-eq0 : goal.returns-then-b-eq0
unfolding divide_of
returns-then-b-eq0 c = rw (by_zero c.ranges.b c.if-b-eq0.true)

pub returns-then-a-b : goal.returns-then-a-b
unfolding divide_of
returns-then-a-b c = let p = is_least c.ranges.a c.ranges.b c.if-a-b.true in rw (p.0, p.1)

pub nonzero_div-result : goal.nonzero_div-result
unfolding divide_of
nonzero_div-result c = asks c.ranges.a c.ranges.b c.if-a-b.false c.if-b-eq0.false

pub returns : goal.returns
unfolding divide_of
returns c = let h = quot_small c.ranges.a c.ranges.b c.if-a-b.false in rw (not_by_zero c.ranges.b c.if-b-eq0.false) (ap Ok (given c.ranges.a c.ranges.b quot_z h ∙ sym (wrap_id 31 _ h)))
