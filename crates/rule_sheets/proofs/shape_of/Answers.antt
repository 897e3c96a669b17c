use Rattle.rule_sheets.specs.Spans.{shape_of}
use Rattle.rule_sheets.proofs.shape_of.Goals as goal

pub returns : goal.returns
unfolding shape_of
returns c = rw (c.choose-5.ensures, c.choose-4.ensures, c.choose-3.ensures, c.choose-2.ensures, c.choose.ensures, c.either.ensures, c.both-2.ensures, c.both.ensures)
