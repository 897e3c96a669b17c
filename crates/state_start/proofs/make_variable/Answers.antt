use Rattle.state_start.proofs.Laws.{variable_channel, variable_filled}
use Rattle.state_start.proofs.make_variable.Goals as goal

pub returns-then-code : goal.returns-then-code
returns-then-code c = variable_channel c.args.t.now c.args.s.now c.args.l c.args.p c.args.k c.code.ensures c.if-code.true c.channels-n.ensures.value c.make_channel.ensures c.kept.type_inv c.kept.ensures c.store.ensures

pub returns-else-code : goal.returns-else-code
returns-else-code c = variable_filled c.args.t.now c.args.s.now c.args.l c.args.p c.args.k c.code.ensures c.if-code.false c.type_of.ensures c.value_of.type_inv c.value_of.ensures c.cast.type_inv c.cast.ensures c.fill.ensures
