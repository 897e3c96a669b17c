use Rattle.rule_search.specs.Search as finding
use native.Mathlib.Omega.{arith}
use borrow.Author.Tests.{eq-eqb, ne_eqb}
use Rattle.rule_search.proofs.one.Goals as goal

pub returns-then-word_at-h : goal.returns-then-word_at-h
unfolding finding.one
returns-then-word_at-h c = record { value = rw (← c.byte_at.ensures, ← c.among.ensures, c.if-among.true, ← c.word_at.ensures.value) (simp (eq-eqb _ _ c.if-word_at-h.true)); upper_bound = omega arith }

pub returns-else-word_at-h : goal.returns-else-word_at-h
unfolding finding.one
returns-else-word_at-h c = record { value = rw (← c.byte_at.ensures, ← c.among.ensures, c.if-among.true, ← c.word_at.ensures.value) (simp (ne_eqb _ _ c.if-word_at-h.false)); upper_bound = omega arith }

pub returns-else-among : goal.returns-else-among
unfolding finding.one
returns-else-among c = record { value = rw (← c.byte_at.ensures, ← c.among.ensures, c.if-among.false); upper_bound = omega arith }
