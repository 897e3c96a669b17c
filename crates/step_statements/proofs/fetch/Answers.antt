use Rattle.step_statements.proofs.Laws.{one_field}
use mathlib.Core.Path.{refl}
use Rattle.step_statements.proofs.fetch.Goals as goal

pub returns : goal.returns
returns c = one_field c.args.s.now c.args.c c.args.w 3 _ _ _ (one_field c.args.s.now c.args.c c.args.w 2 _ _ _ (one_field c.args.s.now c.args.c c.args.w 1 _ _ _ (one_field c.args.s.now c.args.c c.args.w 0 c.args.values.now _ c.args.values.now refl c.field_of.type_inv c.field_of.ensures c.put.ensures) c.field_of-2.type_inv c.field_of-2.ensures c.put-2.ensures) c.field_of-3.type_inv c.field_of-3.ensures c.put-3.ensures) c.field_of-4.type_inv c.field_of-4.ensures c.put-4.ensures
