use Rattle.rule_ceilings.specs.Ceilings as tops
use native.Mathlib.Omega.{arith}
use borrow.Author.Tests.{eq-eqb, ne_eqb}
use Rattle.rule_ceilings.proofs.makes_at.Goals as goal

pub returns-then-h-eq0 : goal.returns-then-h-eq0
unfolding tops.makes_at
returns-then-h-eq0 c = record { value = rw (← c.byte_at.ensures, eq-eqb _ _ c.if-byte_at.true, ← c.word_at-h.ensures.value) (simp (eq-eqb _ _ c.if-h-eq0.true)); upper_bound = omega arith }

pub returns-then-byte_at : goal.returns-then-byte_at
unfolding tops.makes_at
returns-then-byte_at c = record { value = rw (← c.byte_at.ensures, eq-eqb _ _ c.if-byte_at.true, ← c.word_at-h.ensures.value) (simp (ne_eqb _ _ c.if-h-eq0.false) c.starts_at.ensures.value); upper_bound = c.starts_at.ensures.upper_bound }

pub returns : goal.returns
unfolding tops.makes_at
returns c = record { value = rw (← c.byte_at.ensures, ne_eqb _ _ c.if-byte_at.false); upper_bound = omega arith }
