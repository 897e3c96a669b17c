use lib.Dec.{eqb}
use native.Mathlib.Omega.{arith}
use Rattle.rule_search.proofs.Chain.{both_less}
use Rattle.rule_search.specs.Chain.{next_of}
use Rattle.rule_search.proofs.past.Goals as goal

pub returns-then-both : goal.returns-then-both
unfolding next_of
returns-then-both c = record { value = rw (← c.word_on-e.ensures.value, ← c.minus.ensures, ← c.word_at.ensures.value, ← c.both.ensures, c.if-both.true); lower_bound = both_less (eqb c.word_at.result c.args.w) c.args.d c.word_on-e.result c.both.ensures c.if-both.true }

pub returns : goal.returns
unfolding next_of
returns c = record { value = rw (← c.word_on-e.ensures.value, ← c.minus.ensures, ← c.word_at.ensures.value, ← c.both.ensures, c.if-both.false); lower_bound = omega arith }
