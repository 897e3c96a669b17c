use Rattle.parse_tables.specs.Tables.{bases}
use Rattle.parse_tables.proofs.base_at.Goals as goal

pub returns : goal.returns
unfolding bases
returns c = c.byte_at.ensures
