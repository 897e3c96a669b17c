use Rattle.step_messages.proofs.Laws.{one_compared, one-stored}
use Rattle.step_messages.proofs.deliver_one.Goals as goal

pub returns-then-not-is_compared : goal.returns-then-not-is_compared
returns-then-not-is_compared c = one-stored c.args.t.now c.args.m c.args.k c.args.places.now c.args.values.now c.args.s.now c.is_compared.ensures (c.if-not-is_compared.true) c.minus_one.ensures c.variable-l.ensures c.type_of.ensures c.cell.type_inv c.cell.ensures c.cast-v.ensures c.cast-v.type_inv c.place_at.ensures c.put.ensures

pub returns-else-not-is_compared : goal.returns-else-not-is_compared
returns-else-not-is_compared c = one_compared c.args.t.now c.args.m c.args.k c.args.places.now c.args.values.now c.args.s.now c.is_compared.ensures (c.if-not-is_compared.false)
