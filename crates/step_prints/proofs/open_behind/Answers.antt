use borrow.Author.Tests.{eq-eqb, ne_eqb}
use Rattle.spec_text.specs.Formats.{opened}
use Rattle.step_prints.proofs.open_behind.Goals as goal

pub returns-then-was-eq92 : goal.returns-then-was-eq92
unfolding opened
returns-then-was-eq92 c = simp (eq-eqb _ _ c.if-was-eq92.true)

pub returns-then-was-eq37 : goal.returns-then-was-eq37
unfolding opened
returns-then-was-eq37 c = simp (ne_eqb _ _ c.if-was-eq92.false, eq-eqb _ _ c.if-was-eq37.true)

pub returns-then-b-eq92 : goal.returns-then-b-eq92
unfolding opened
returns-then-b-eq92 c = simp (ne_eqb _ _ c.if-was-eq92.false, ne_eqb _ _ c.if-was-eq37.false, eq-eqb _ _ c.if-b-eq92.true)

pub returns-then-b-eq37 : goal.returns-then-b-eq37
unfolding opened
returns-then-b-eq37 c = simp (ne_eqb _ _ c.if-was-eq92.false, ne_eqb _ _ c.if-was-eq37.false, ne_eqb _ _ c.if-b-eq92.false, eq-eqb _ _ c.if-b-eq37.true)

pub returns-else-b-eq37 : goal.returns-else-b-eq37
unfolding opened
returns-else-b-eq37 c = simp (ne_eqb _ _ c.if-was-eq92.false, ne_eqb _ _ c.if-was-eq37.false, ne_eqb _ _ c.if-b-eq92.false, ne_eqb _ _ c.if-b-eq37.false)
