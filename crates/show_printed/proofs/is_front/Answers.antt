use borrow.Author.Tests.{ne_eqb}
use Rattle.spec_account.specs.Quiet.{is_front}
use Rattle.show_printed.proofs.is_front.Goals as goal

pub returns-in-61 : goal.returns-in-61
unfolding is_front
returns-in-61 c = rw c.in-61.is

pub returns-in-97 : goal.returns-in-97
unfolding is_front
returns-in-97 c = rw c.in-97.is

pub returns-in-98 : goal.returns-in-98
unfolding is_front
returns-in-98 c = rw c.in-98.is

pub returns-in-101 : goal.returns-in-101
unfolding is_front
returns-in-101 c = rw c.in-101.is

pub returns-in-102 : goal.returns-in-102
unfolding is_front
returns-in-102 c = rw c.in-102.is

pub returns-in-111 : goal.returns-in-111
unfolding is_front
returns-in-111 c = rw c.in-111.is

pub returns-in-114 : goal.returns-in-114
unfolding is_front
returns-in-114 c = rw c.in-114.is

pub returns-in_default : goal.returns-in_default
unfolding is_front
returns-in_default c = let r = c.in_default.in_default-own.rest in rw (ne_eqb c.args.b 97 r.0.0.0.0.0.1, ne_eqb c.args.b 114 r.1, ne_eqb c.args.b 111 r.0.1, ne_eqb c.args.b 98 r.0.0.0.0.1, ne_eqb c.args.b 102 r.0.0.1, ne_eqb c.args.b 101 r.0.0.0.1, ne_eqb c.args.b 61 r.0.0.0.0.0.0.1)
