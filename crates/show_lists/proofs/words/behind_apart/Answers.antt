use mathlib.Core.Path.{refl}
use borrow.Author.Tests.{ne_eqb, eq-eqb}
use Rattle.show_lists.proofs.words.behind_apart.Goals as goal

pub returns-then-is_blank : goal.returns-then-is_blank
returns-then-is_blank c = rw (← c.is_blank.ensures, c.if-is_blank.true) refl

pub returns-then-b-eq34 : goal.returns-then-b-eq34
returns-then-b-eq34 c = rw (← c.is_blank.ensures, c.if-is_blank.false, eq-eqb _ _ c.if-b-eq34.true) refl

pub returns : goal.returns
returns c = rw (← c.is_blank.ensures, c.if-is_blank.false, ne_eqb _ _ c.if-b-eq34.false) refl
