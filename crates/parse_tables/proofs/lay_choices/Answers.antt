use Rattle.parse_tables.specs.Tables.{choices}
use Rattle.parse_tables.proofs.lay_choices.Goals as goal

pub returns : goal.returns
unfolding choices
returns c = c.copy.ensures
