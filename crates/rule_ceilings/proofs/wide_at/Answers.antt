use borrow.Author.Tests.{eq-eqb, ne_eqb, lt-ltb, le-ltb}
use native.Mathlib.Omega.{arith}
use Rattle.rule_ceilings.specs.Ceilings as tops
use Rattle.rule_ceilings.proofs.wide_at.Goals as goal

pub returns-then-count-gt-PRINTED_MOST : goal.returns-then-count-gt-PRINTED_MOST
unfolding tops.wide_at
returns-then-count-gt-PRINTED_MOST c = record { value = rw (← c.byte_at.ensures, eq-eqb _ _ c.if-byte_at.true, ← c.opener-o.ensures, ← c.byte_at-then-byte_at.ensures, eq-eqb _ _ c.if-byte_at-eq-TEXT.true, ← c.word_at.ensures.value, ← c.count.ensures, lt-ltb _ _ c.if-count-gt-PRINTED_MOST.true); upper_bound = omega arith }

pub returns-else-count-gt-PRINTED_MOST : goal.returns-else-count-gt-PRINTED_MOST
unfolding tops.wide_at
returns-else-count-gt-PRINTED_MOST c = record { value = rw (← c.byte_at.ensures, eq-eqb _ _ c.if-byte_at.true, ← c.opener-o.ensures, ← c.byte_at-then-byte_at.ensures, eq-eqb _ _ c.if-byte_at-eq-TEXT.true, ← c.word_at.ensures.value, ← c.count.ensures, le-ltb _ _ c.if-count-gt-PRINTED_MOST.false); upper_bound = omega arith }

pub returns-else-byte_at-eq-TEXT : goal.returns-else-byte_at-eq-TEXT
unfolding tops.wide_at
returns-else-byte_at-eq-TEXT c = record { value = rw (← c.byte_at.ensures, eq-eqb _ _ c.if-byte_at.true, ← c.opener-o.ensures, ← c.byte_at-then-byte_at.ensures, ne_eqb _ _ c.if-byte_at-eq-TEXT.false); upper_bound = omega arith }

pub returns-else-byte_at : goal.returns-else-byte_at
unfolding tops.wide_at
returns-else-byte_at c = record { value = rw (← c.byte_at.ensures, ne_eqb _ _ c.if-byte_at.false); upper_bound = omega arith }
