use mathlib.Core.Path.{refl}
use borrow.Author.Tests.{ne_eqb, eq-eqb}
use Rattle.show_lists.proofs.words.behind_quoted.Goals as goal

pub returns-then-b-eq34 : goal.returns-then-b-eq34
returns-then-b-eq34 c = rw (eq-eqb _ _ c.if-b-eq34.true) refl

pub returns-then-b-eq92 : goal.returns-then-b-eq92
returns-then-b-eq92 c = rw (ne_eqb _ _ c.if-b-eq34.false, eq-eqb _ _ c.if-b-eq92.true) refl

pub returns : goal.returns
returns c = rw (ne_eqb _ _ c.if-b-eq34.false, ne_eqb _ _ c.if-b-eq92.false) refl
