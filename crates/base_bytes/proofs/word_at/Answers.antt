use native.Mathlib.Omega.{arith}
use mathlib.Core.Path.{sym, refl}
use lib.ListN.{get_or-eq_default}
use Rattle.base_bytes.proofs.word_at.Goals as goal

pub overflow_cast-result : goal.overflow_cast-result
overflow_cast-result c = omega (arith, c.type_inv.s c.args.i)

pub returns-then-i-s : goal.returns-then-i-s
returns-then-i-s c = record { value = refl; upper_bound = omega (arith, c.type_inv.s c.args.i) }

pub returns-else-i-s : goal.returns-else-i-s
returns-else-i-s c = record { value = sym (get_or-eq_default c.args.s.now 0 {n = c.args.i} (omega arith)); upper_bound = omega arith }
