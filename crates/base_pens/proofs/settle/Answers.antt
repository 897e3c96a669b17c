use mathlib.Core.Path.{sym}
use borrow.Author.Tests.{ne_eqb, eq-eqb}
use Rattle.base_pens.specs.Pack as pack
use Rattle.base_pens.proofs.settle.Goals as goal

pub returns-then-held-eq0 : goal.returns-then-held-eq0
unfolding pack.settle
returns-then-held-eq0 c = sym (simp (eq-eqb _ _ c.if-held-eq0.true))

pub returns-else-held-eq0 : goal.returns-else-held-eq0
unfolding pack.settle
returns-else-held-eq0 c = sym (simp (ne_eqb _ _ c.if-held-eq0.false, ← c.four.ensures, ← c.put.ensures))
