use Rattle.step_messages.proofs.Laws.{field_put}
use Rattle.step_messages.proofs.put_field.Goals as goal

pub returns : goal.returns
returns c = field_put c.args.t.now c.args.s.now _ c.args.d c.args.c c.args.w c.args.f c.args.v c.ranges.v c.field_at.ensures c.field_type.ensures c.cast.ensures c.cast.type_inv c.put.ensures
