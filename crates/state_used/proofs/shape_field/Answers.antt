use Rattle.state_used.proofs.Laws.{field_as}
use Rattle.state_used.proofs.shape_field.Goals as goal

pub returns : goal.returns
returns c = field_as c.args.s.now c.args.x.now _ c.args.c c.args.m c.args.f c.field_at.ensures c.copy_number.ensures
