use borrow.Author.Tests.{eq-eqb, ne_eqb}
use native.Mathlib.Omega.{arith}
use Rattle.spec_text.specs.Formats.{counted}
use Rattle.step_prints.proofs.count_behind.Goals as goal

pub returns-then-b-eq100 : goal.returns-then-b-eq100
unfolding counted
returns-then-b-eq100 c = record { value = simp (eq-eqb _ _ c.if-was-eq37.true, eq-eqb _ _ c.if-b-eq100.true); upper_bound = omega arith }

pub returns-then-was-eq37 : goal.returns-then-was-eq37
unfolding counted
returns-then-was-eq37 c = record { value = simp (eq-eqb _ _ c.if-was-eq37.true, ne_eqb _ _ c.if-b-eq100.false); upper_bound = omega arith }

pub returns : goal.returns
unfolding counted
returns c = record { value = simp (ne_eqb _ _ c.if-was-eq37.false); upper_bound = omega arith }
