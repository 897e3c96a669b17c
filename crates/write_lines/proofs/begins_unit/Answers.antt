use Rattle.write_lines.proofs.begins_unit.Goals as goal

pub returns : goal.returns
returns c = rw (c.either.ensures, c.both.ensures, c.begins_head.ensures)
