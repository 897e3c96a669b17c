use Rattle.spec_text.specs.Find.{find}
use Rattle.trail_form.proofs.claim_of.Goals as goal

pub returns-then-same : goal.returns-then-same
unfolding find
returns-then-same c = rw (← c.same.ensures, c.if-same.true)

pub returns-then-same-2 : goal.returns-then-same-2
unfolding find
returns-then-same-2 c = rw (← c.same.ensures, c.if-same.false, ← c.same-2.ensures, c.if-same-2.true)

pub returns-then-same-3 : goal.returns-then-same-3
unfolding find
returns-then-same-3 c = rw (← c.same.ensures, c.if-same.false, ← c.same-2.ensures, c.if-same-2.false, ← c.same-3.ensures, c.if-same-3.true)

pub returns-then-same-4 : goal.returns-then-same-4
unfolding find
returns-then-same-4 c = rw (← c.same.ensures, c.if-same.false, ← c.same-2.ensures, c.if-same-2.false, ← c.same-3.ensures, c.if-same-3.false, ← c.same-4.ensures, c.if-same-4.true)

pub returns-then-same-5 : goal.returns-then-same-5
unfolding find
returns-then-same-5 c = rw (← c.same.ensures, c.if-same.false, ← c.same-2.ensures, c.if-same-2.false, ← c.same-3.ensures, c.if-same-3.false, ← c.same-4.ensures, c.if-same-4.false, ← c.same-5.ensures, c.if-same-5.true)

pub returns : goal.returns
unfolding find
returns c = rw (← c.same.ensures, c.if-same.false, ← c.same-2.ensures, c.if-same-2.false, ← c.same-3.ensures, c.if-same-3.false, ← c.same-4.ensures, c.if-same-4.false, ← c.same-5.ensures, c.if-same-5.false)
