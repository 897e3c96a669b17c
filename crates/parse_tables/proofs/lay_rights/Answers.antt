use Rattle.parse_tables.specs.Tables.{rights}
use Rattle.parse_tables.proofs.lay_rights.Goals as goal

pub returns : goal.returns
unfolding rights
returns c = c.copy.ensures
