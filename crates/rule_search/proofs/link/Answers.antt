use Rattle.rule_search.specs.Chain.{linked}
use Rattle.rule_search.proofs.link.Goals as goal

pub returns-then-both : goal.returns-then-both
unfolding linked
returns-then-both c = rw (← c.byte_at.ensures, ← c.minus.ensures, ← c.word_at-w.ensures.value, ← c.is_named.ensures, ← c.both.ensures, c.if-both.true) (rw (c.put-then-both.ensures, c.put.ensures, c.word_at-e.ensures.value))

pub returns-else-both : goal.returns-else-both
unfolding linked
returns-else-both c = rw (← c.byte_at.ensures, ← c.minus.ensures, ← c.word_at-w.ensures.value, ← c.is_named.ensures, ← c.both.ensures, c.if-both.false)
