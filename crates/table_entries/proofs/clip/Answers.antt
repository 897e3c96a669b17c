use Rattle.table_entries.proofs.clip.Goals as goal

pub returns : goal.returns
returns c = rw (c.part.ensures, c.least.ensures)
