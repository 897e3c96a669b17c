use Rattle.base_bytes.proofs.part.Goals as goal

pub returns : goal.returns
returns c = rw (c.least-s.ensures, c.least-e.ensures)
