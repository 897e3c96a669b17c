use Rattle.rule_ceilings.specs.Ceilings as tops
use native.Mathlib.Omega.{arith}
use borrow.Author.Tests.{lt-ltb, le-ltb}
use Rattle.rule_ceilings.proofs.heavy_at.Goals as goal

pub returns-then-numbers-gt-NUMBERS_MOST : goal.returns-then-numbers-gt-NUMBERS_MOST
unfolding tops.heavy_at
returns-then-numbers-gt-NUMBERS_MOST c = record { value = rw (← c.byte_at.ensures, ← c.among.ensures, c.if-among.true, ← c.numbers.ensures, lt-ltb _ _ c.if-numbers-gt-NUMBERS_MOST.true); upper_bound = omega arith }

pub returns-else-numbers-gt-NUMBERS_MOST : goal.returns-else-numbers-gt-NUMBERS_MOST
unfolding tops.heavy_at
returns-else-numbers-gt-NUMBERS_MOST c = record { value = rw (← c.byte_at.ensures, ← c.among.ensures, c.if-among.true, ← c.numbers.ensures, le-ltb _ _ c.if-numbers-gt-NUMBERS_MOST.false); upper_bound = omega arith }

pub returns-else-among : goal.returns-else-among
unfolding tops.heavy_at
returns-else-among c = record { value = rw (← c.byte_at.ensures, ← c.among.ensures, c.if-among.false); upper_bound = omega arith }
