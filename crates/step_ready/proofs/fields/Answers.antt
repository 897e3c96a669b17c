use Rattle.step_ready.specs.Channels.{fields_of}
use native.Mathlib.Omega.{arith}
use borrow.Author.Tests.{eq-eqb, ne_eqb}
use Rattle.step_ready.proofs.fields.Goals as goal

pub returns-then-code-4 : goal.returns-then-code-4
unfolding fields_of
returns-then-code-4 c = record { value = rw (← c.code.ensures, eq-eqb _ _ c.if-code.true, ← c.code-then-code.ensures, eq-eqb _ _ c.if-code-2.true, ← c.code-then-code-2.ensures, eq-eqb _ _ c.if-code-3.true, ← c.code-then-code-3.ensures, eq-eqb _ _ c.if-code-4.true); upper_bound = omega arith }

pub returns-then-code-3 : goal.returns-then-code-3
unfolding fields_of
returns-then-code-3 c = record { value = rw (← c.code.ensures, eq-eqb _ _ c.if-code.true, ← c.code-then-code.ensures, eq-eqb _ _ c.if-code-2.true, ← c.code-then-code-2.ensures, eq-eqb _ _ c.if-code-3.true, ← c.code-then-code-3.ensures, ne_eqb _ _ c.if-code-4.false); upper_bound = omega arith }

pub returns-then-code-2 : goal.returns-then-code-2
unfolding fields_of
returns-then-code-2 c = record { value = rw (← c.code.ensures, eq-eqb _ _ c.if-code.true, ← c.code-then-code.ensures, eq-eqb _ _ c.if-code-2.true, ← c.code-then-code-2.ensures, ne_eqb _ _ c.if-code-3.false); upper_bound = omega arith }

pub returns-then-code : goal.returns-then-code
unfolding fields_of
returns-then-code c = record { value = rw (← c.code.ensures, eq-eqb _ _ c.if-code.true, ← c.code-then-code.ensures, ne_eqb _ _ c.if-code-2.false); upper_bound = omega arith }

pub returns : goal.returns
unfolding fields_of
returns c = record { value = rw (← c.code.ensures, ne_eqb _ _ c.if-code.false); upper_bound = omega arith }
