use mathlib.Core.List.{[]}
use Rattle.state_start.proofs.Laws.{starts-one, starts-many, starts_init, starts_none}
use Rattle.state_start.proofs.starts_of.Goals as goal

pub returns-in-224 : goal.returns-in-224
returns-in-224 c = starts-one c.args.t.now [] c.args.j c.code.ensures c.in-224.is

pub returns-in-225 : goal.returns-in-225
returns-in-225 c = starts-many c.args.t.now [] c.args.j c.code.ensures c.in-225.is c.minus_two.ensures c.number.ensures.value

pub returns-in-226 : goal.returns-in-226
returns-in-226 c = starts_init c.args.t.now [] c.args.j c.code.ensures c.in-226.is

pub returns-in_default : goal.returns-in_default
returns-in_default c = starts_none c.args.t.now [] c.args.j c.code.ensures c.in_default.in_default-own.rest.0.0.1 c.in_default.in_default-own.rest.0.1 c.in_default.in_default-own.rest.1
