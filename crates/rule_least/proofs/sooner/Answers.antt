use Rattle.rule_least.specs.Faults as faults
use borrow.Author.Tests.{lt-ltb, le-ltb}
use Rattle.rule_least.proofs.sooner.Goals as goal

pub returns-in-None : goal.returns-in-None
unfolding faults.sooner
returns-in-None c = rw c.in-None.is

pub returns-then-p-p2 : goal.returns-then-p-p2
unfolding faults.sooner
returns-then-p-p2 c = rw c.in-At.is (simp (lt-ltb _ _ c.if-p-p2.true))

pub returns-then-p2-p : goal.returns-then-p2-p
unfolding faults.sooner
returns-then-p2-p c = rw c.in-At.is (simp (le-ltb _ _ c.if-p-p2.false, lt-ltb _ _ c.if-p2-p.true))

pub returns-then-m2-m : goal.returns-then-m2-m
unfolding faults.sooner
returns-then-m2-m c = rw c.in-At.is (simp (le-ltb _ _ c.if-p-p2.false, le-ltb _ _ c.if-p2-p.false, lt-ltb _ _ c.if-m2-m.true))

pub returns-else-m2-m : goal.returns-else-m2-m
unfolding faults.sooner
returns-else-m2-m c = rw c.in-At.is (simp (le-ltb _ _ c.if-p-p2.false, le-ltb _ _ c.if-p2-p.false, le-ltb _ _ c.if-m2-m.false))
