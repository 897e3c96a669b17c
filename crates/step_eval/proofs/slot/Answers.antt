use Rattle.step_eval.specs.Variables.{slot_of}
use borrow.Author.Tests.{eq-eqb, ne_eqb}
use Rattle.step_eval.proofs.slot.Goals as goal

pub returns-then-l-eq0 : goal.returns-then-l-eq0
unfolding slot_of
returns-then-l-eq0 c = simp (eq-eqb _ _ c.if-l-eq0.true) c.global_at.ensures

pub returns-else-l-eq0 : goal.returns-else-l-eq0
unfolding slot_of
returns-else-l-eq0 c = simp (ne_eqb _ _ c.if-l-eq0.false) c.local_at.ensures
