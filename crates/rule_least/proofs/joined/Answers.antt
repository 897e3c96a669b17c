use borrow.Author.Tests.{eq-eqb, ne_eqb}
use Rattle.rule_least.specs.Faults as faults
use Rattle.rule_least.proofs.joined.Goals as goal

pub returns-then-m-eq0 : goal.returns-then-m-eq0
unfolding faults.joined
returns-then-m-eq0 c = rw (← c.byte_at.ensures, ← c.rule_of-rule.ensures, ← c.bad_by-m.ensures c.requires, eq-eqb _ _ c.if-m-eq0.true)

pub returns : goal.returns
unfolding faults.joined
returns c = rw (← c.byte_at.ensures, ← c.rule_of-rule.ensures, ← c.bad_by-m.ensures c.requires, ne_eqb _ _ c.if-m-eq0.false) (rw (c.sooner.ensures, c.place_by.ensures))
