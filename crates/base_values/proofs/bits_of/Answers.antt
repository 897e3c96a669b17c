use Rattle.std.proofs.Common.{lit≤}
use Rattle.base_values.proofs.Wrap.{low_lt}
use Rattle.base_values.proofs.Machine.{masks}
use Rattle.base_values.proofs.bits_of.Goals as goal

pub overflow_cast-result : goal.overflow_cast-result
overflow_cast-result c = rw (masks 32 (lit≤ tt) c.ranges.s) (tt, record { fits = low_lt 32 c.args.s })

pub returns : goal.returns
returns c = rw (masks 32 (lit≤ tt) c.ranges.s)
