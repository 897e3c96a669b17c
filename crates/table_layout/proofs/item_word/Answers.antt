use native.Mathlib.Omega.{arith}
use mathlib.Core.Path.{sym}
use borrow.Author.Tests.{ne_eqb}
use Rattle.table_layout.specs.Tables.{item_word, argument}
use Rattle.table_layout.proofs.item_word.Goals as goal

pub returns-in-71 : goal.returns-in-71
unfolding item_word argument
returns-in-71 c = rw c.in-71.is

pub returns-in-70 : goal.returns-in-70
unfolding item_word argument
returns-in-70 c = rw (c.in-70.is, c.least-at.ensures)

pub returns-in-72 : goal.returns-in-72
unfolding item_word argument
returns-in-72 c = rw (c.in-72.is, c.least-at.ensures)

pub returns-in_default : goal.returns-in_default
unfolding item_word argument
returns-in_default c = sym (simp (ne_eqb _ _ c.in_default.in_default-own.rest.1, ne_eqb _ _ c.in_default.in_default-own.rest.0.1, ne_eqb _ _ c.in_default.in_default-own.rest.0.0.1) (omega arith))
