use Rattle.rule_search.specs.Search as finding
use native.Mathlib.Omega.{arith}
use borrow.Author.Tests.{lt-ltb, le-ltb}
use Rattle.rule_search.proofs.lookup.Goals as goal

pub returns-then-d-m : goal.returns-then-d-m
unfolding finding.lookup
returns-then-d-m c = λ k. simp (← c.find-d.ensures k (omega arith), lt-ltb _ _ c.if-d-m.true)

pub returns : goal.returns
unfolding finding.lookup
returns c = λ k. simp (← c.find-d.ensures k (omega arith), le-ltb _ _ c.if-d-m.false) (c.find.ensures k (omega arith))
