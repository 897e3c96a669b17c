use borrow.Author.Tests.{ne_eqb}
use Rattle.spec_text.specs.Formats.{escaped}
use Rattle.step_prints.proofs.escape.Goals as goal

pub returns-in-110 : goal.returns-in-110
unfolding escaped
returns-in-110 c = rw c.in-110.is

pub returns-in-116 : goal.returns-in-116
unfolding escaped
returns-in-116 c = rw c.in-116.is

pub returns-in_default : goal.returns-in_default
unfolding escaped
returns-in_default c = simp (ne_eqb c.args.b 110 c.in_default.in_default-own.rest.0.1, ne_eqb c.args.b 116 c.in_default.in_default-own.rest.1)
