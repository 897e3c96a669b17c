use Rattle.rule_item.specs.Rules as rules
use native.Mathlib.Omega.{arith}
use borrow.Author.Tests.{eq-eqb, ne_eqb}
use Rattle.rule_item.proofs.depth_on.Goals as goal

pub returns-then-d-eq0 : goal.returns-then-d-eq0
unfolding rules.depth_on
returns-then-d-eq0 c = record { value = simp (eq-eqb _ _ c.if-d-eq0.true); upper_bound = omega arith }

pub returns-then-either : goal.returns-then-either
unfolding rules.depth_on
returns-then-either c = record { value = rw (ne_eqb _ _ c.if-d-eq0.false, ← c.byte_at-c.ensures, ← c.either.ensures, c.if-either.true); upper_bound = omega arith }

pub returns-then-either-2 : goal.returns-then-either-2
unfolding rules.depth_on
returns-then-either-2 c = record { value = rw (ne_eqb _ _ c.if-d-eq0.false, ← c.byte_at-c.ensures, ← c.either.ensures, c.if-either.false, ← c.either-2.ensures, c.if-either-2.true); upper_bound = omega arith }

pub returns : goal.returns
unfolding rules.depth_on
returns c = record { value = rw (ne_eqb _ _ c.if-d-eq0.false, ← c.byte_at-c.ensures, ← c.either.ensures, c.if-either.false, ← c.either-2.ensures, c.if-either-2.false); upper_bound = omega arith }
