use Rattle.rule_sheets.specs.Payload.{spelled}
use Rattle.rule_sheets.proofs.alike.Goals as goal

pub returns : goal.returns
unfolding spelled
returns c = rw (c.same.ensures, c.part.ensures, c.part-2.ensures, c.word_at.ensures.value, c.word_at-2.ensures.value, c.word_at-3.ensures.value, c.word_at-4.ensures.value)
