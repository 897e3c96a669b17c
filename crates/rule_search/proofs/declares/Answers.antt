use Rattle.rule_search.specs.Search as finding
use Rattle.rule_search.proofs.declares.Goals as goal

pub returns-then-among : goal.returns-then-among
unfolding finding.declares
returns-then-among c = rw (← c.byte_at.ensures, ← c.among.ensures, c.if-among.true) (rw (c.both.ensures, c.word_at-then-among.ensures.value, c.word_at.ensures.value, c.minus.ensures))

pub returns-else-among : goal.returns-else-among
unfolding finding.declares
returns-else-among c = rw (← c.byte_at.ensures, ← c.among.ensures, c.if-among.false)
