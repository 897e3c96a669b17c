use Rattle.state_start.proofs.Laws.{value_plain, value_minus, value_named, value_none}
use Rattle.state_start.proofs.value_of.Goals as goal

pub returns-in-214 : goal.returns-in-214
returns-in-214 c = value_plain c.args.t.now c.args.k c.code.ensures c.in-214.is c.literal.type_inv c.literal.ensures

pub returns-in-215 : goal.returns-in-215
returns-in-215 c = value_minus c.args.t.now c.args.k c.code.ensures c.in-215.is c.literal-in-215.type_inv c.literal-in-215.ensures c.apply_unary.type_inv c.apply_unary.ensures

pub returns-in-216 : goal.returns-in-216
returns-in-216 c = value_named c.args.t.now c.args.k c.code.ensures c.in-216.is c.link.ensures.value c.link-in-216.ensures.value c.kept.type_inv c.kept.ensures

pub returns-in_default : goal.returns-in_default
returns-in_default c = value_none c.args.t.now c.args.k c.code.ensures c.in_default.in_default-own.rest.0.0.1 c.in_default.in_default-own.rest.0.1 c.in_default.in_default-own.rest.1
