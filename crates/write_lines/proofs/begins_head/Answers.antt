use Rattle.write_lines.proofs.begins_head.Goals as goal

pub returns : goal.returns
returns c = rw (c.either-2.ensures, c.either.ensures)
