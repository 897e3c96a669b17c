use mathlib.Core.Path.{sym}
use borrow.Author.Tests.{ne_eqb}
use Rattle.base_pens.specs.Pack as pack
use Rattle.base_pens.proofs.drip.Goals as goal

pub returns-in-0 : goal.returns-in-0
unfolding pack.drip
returns-in-0 c = rw c.in-0.is

pub returns-in-1 : goal.returns-in-1
unfolding pack.drip
returns-in-1 c = rw c.in-1.is

pub returns-in-2 : goal.returns-in-2
unfolding pack.drip
returns-in-2 c = rw c.in-2.is

pub returns-in_default : goal.returns-in_default
unfolding pack.drip
returns-in_default c = sym (simp (ne_eqb _ _ c.in_default.in_default-own.rest.1, ne_eqb _ _ c.in_default.in_default-own.rest.0.1, ne_eqb _ _ c.in_default.in_default-own.rest.0.0.1, ← c.four.ensures, ← c.put-p.ensures))
