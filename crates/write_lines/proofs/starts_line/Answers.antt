use Rattle.write_lines.specs.Lines.{starts_line}
use Rattle.write_lines.proofs.starts_line.Goals as goal

pub returns : goal.returns
unfolding starts_line
returns c = rw (c.either-3.ensures, c.either-2.ensures, c.either.ensures, c.either-option.ensures, c.both-unit.ensures, c.both-left.ensures, c.both-right.ensures, c.closes.ensures, c.begins_unit.ensures)
