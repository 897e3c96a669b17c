use Rattle.state_start.proofs.Laws.{literal_number, literal_true, literal_none}
use Rattle.state_start.proofs.literal.Goals as goal

pub returns-in-71 : goal.returns-in-71
returns-in-71 c = literal_number c.args.t.now c.args.k c.code.ensures c.in-71.is c.number.ensures.value c.kept.type_inv c.kept.ensures

pub returns-in-178 : goal.returns-in-178
returns-in-178 c = literal_true c.args.t.now c.args.k c.code.ensures c.in-178.is

pub returns-in_default : goal.returns-in_default
returns-in_default c = literal_none c.args.t.now c.args.k c.code.ensures c.in_default.in_default-own.rest.0.1 c.in_default.in_default-own.rest.1
