use Rattle.write_lines.specs.Lines.{ends_line}
use Rattle.write_lines.proofs.ends_line.Goals as goal

pub returns : goal.returns
unfolding ends_line
returns c = rw (c.either-2.ensures, c.either.ensures, c.either-option.ensures, c.both-left.ensures, c.both-semicolon.ensures, c.opens.ensures)
