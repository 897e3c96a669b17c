use Rattle.show_steps.proofs.Laws as laws
use Rattle.show_steps.proofs.put_row.Goals as goal

pub returns : goal.returns
returns c = laws.row_put _ _ _ _ _ _ _ c.put_field-a.ensures c.put_field-b.ensures c.put_field.ensures
