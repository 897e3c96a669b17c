use Rattle.base_bytes.specs.Lists.{same}
use Rattle.spec_text.specs.Find.{find}
use borrow.Author.Tests.{ne_eqb}
use Rattle.text_spellings.proofs.place_of_one.Goals as goal

pub returns-in-124 : goal.returns-in-124
unfolding find same
returns-in-124 c = rw c.in-124.is

pub returns-in-94 : goal.returns-in-94
unfolding find same
returns-in-94 c = rw c.in-94.is

pub returns-in-38 : goal.returns-in-38
unfolding find same
returns-in-38 c = rw c.in-38.is

pub returns-in-60 : goal.returns-in-60
unfolding find same
returns-in-60 c = rw c.in-60.is

pub returns-in-62 : goal.returns-in-62
unfolding find same
returns-in-62 c = rw c.in-62.is

pub returns-in-43 : goal.returns-in-43
unfolding find same
returns-in-43 c = rw c.in-43.is

pub returns-in-45 : goal.returns-in-45
unfolding find same
returns-in-45 c = rw c.in-45.is

pub returns-in-42 : goal.returns-in-42
unfolding find same
returns-in-42 c = rw c.in-42.is

pub returns-in-47 : goal.returns-in-47
unfolding find same
returns-in-47 c = rw c.in-47.is

pub returns-in-37 : goal.returns-in-37
unfolding find same
returns-in-37 c = rw c.in-37.is

pub returns-in-33 : goal.returns-in-33
unfolding find same
returns-in-33 c = rw c.in-33.is

pub returns-in-126 : goal.returns-in-126
unfolding find same
returns-in-126 c = rw c.in-126.is

pub returns-in-40 : goal.returns-in-40
unfolding find same
returns-in-40 c = rw c.in-40.is

pub returns-in-41 : goal.returns-in-41
unfolding find same
returns-in-41 c = rw c.in-41.is

pub returns-in-91 : goal.returns-in-91
unfolding find same
returns-in-91 c = rw c.in-91.is

pub returns-in-93 : goal.returns-in-93
unfolding find same
returns-in-93 c = rw c.in-93.is

pub returns-in-123 : goal.returns-in-123
unfolding find same
returns-in-123 c = rw c.in-123.is

pub returns-in-125 : goal.returns-in-125
unfolding find same
returns-in-125 c = rw c.in-125.is

pub returns-in-44 : goal.returns-in-44
unfolding find same
returns-in-44 c = rw c.in-44.is

pub returns-in-59 : goal.returns-in-59
unfolding find same
returns-in-59 c = rw c.in-59.is

pub returns-in-58 : goal.returns-in-58
unfolding find same
returns-in-58 c = rw c.in-58.is

pub returns-in-61 : goal.returns-in-61
unfolding find same
returns-in-61 c = rw c.in-61.is

pub returns-in-63 : goal.returns-in-63
unfolding find same
returns-in-63 c = rw c.in-63.is

pub returns-in_default : goal.returns-in_default
unfolding find same
returns-in_default c = rw (ne_eqb c.args.a 124 c.in_default.in_default-own.rest.0.0.0.0.0.0.0.0.0.0.0.0.0.0.0.0.0.0.0.0.0.0.1, ne_eqb c.args.a 94 c.in_default.in_default-own.rest.0.0.0.0.0.0.0.0.0.0.0.0.0.0.0.0.0.0.0.0.0.1, ne_eqb c.args.a 38 c.in_default.in_default-own.rest.0.0.0.0.0.0.0.0.0.0.0.0.0.0.0.0.0.0.0.0.1, ne_eqb c.args.a 60 c.in_default.in_default-own.rest.0.0.0.0.0.0.0.0.0.0.0.0.0.0.0.0.0.0.0.1, ne_eqb c.args.a 62 c.in_default.in_default-own.rest.0.0.0.0.0.0.0.0.0.0.0.0.0.0.0.0.0.0.1, ne_eqb c.args.a 43 c.in_default.in_default-own.rest.0.0.0.0.0.0.0.0.0.0.0.0.0.0.0.0.0.1, ne_eqb c.args.a 45 c.in_default.in_default-own.rest.0.0.0.0.0.0.0.0.0.0.0.0.0.0.0.0.1, ne_eqb c.args.a 42 c.in_default.in_default-own.rest.0.0.0.0.0.0.0.0.0.0.0.0.0.0.0.1, ne_eqb c.args.a 47 c.in_default.in_default-own.rest.0.0.0.0.0.0.0.0.0.0.0.0.0.0.1, ne_eqb c.args.a 37 c.in_default.in_default-own.rest.0.0.0.0.0.0.0.0.0.0.0.0.0.1, ne_eqb c.args.a 33 c.in_default.in_default-own.rest.0.0.0.0.0.0.0.0.0.0.0.0.1, ne_eqb c.args.a 126 c.in_default.in_default-own.rest.0.0.0.0.0.0.0.0.0.0.0.1, ne_eqb c.args.a 40 c.in_default.in_default-own.rest.0.0.0.0.0.0.0.0.0.0.1, ne_eqb c.args.a 41 c.in_default.in_default-own.rest.0.0.0.0.0.0.0.0.0.1, ne_eqb c.args.a 91 c.in_default.in_default-own.rest.0.0.0.0.0.0.0.0.1, ne_eqb c.args.a 93 c.in_default.in_default-own.rest.0.0.0.0.0.0.0.1, ne_eqb c.args.a 123 c.in_default.in_default-own.rest.0.0.0.0.0.0.1, ne_eqb c.args.a 125 c.in_default.in_default-own.rest.0.0.0.0.0.1, ne_eqb c.args.a 44 c.in_default.in_default-own.rest.0.0.0.0.1, ne_eqb c.args.a 59 c.in_default.in_default-own.rest.0.0.0.1, ne_eqb c.args.a 58 c.in_default.in_default-own.rest.0.0.1, ne_eqb c.args.a 61 c.in_default.in_default-own.rest.0.1, ne_eqb c.args.a 63 c.in_default.in_default-own.rest.1)
