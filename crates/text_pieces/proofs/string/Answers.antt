use Prim.Native.Nat.{◌+◌}
use Rattle.base_ceilings.specs.Ceilings.{string_most}
use Rattle.text_pieces.proofs.Laws as laws
use native.Mathlib.Omega.{arith}
use borrow.Author.Tests.{lt-ltb, le-ltb}
use Rattle.text_pieces.proofs.string.Goals as goal

pub overflow_add-result : goal.overflow_add-result
overflow_add-result c = omega (arith, laws.string_within c.quoted_from.result c.args.s.now c.in-Closed.n c.quoted_from.ensures c.in-Closed.is)

pub returns-then-n : goal.returns-then-n
returns-then-n c = rw (← c.quoted_from.ensures, c.in-Closed.is, lt-ltb (string_most + 1) c.in-Closed.n c.if-n.true)

pub overflow_add-result-in-Spoiled : goal.overflow_add-result-in-Spoiled
overflow_add-result-in-Spoiled c = omega (arith, laws.spoiled_within c.quoted_from.result c.args.s.now c.in-Spoiled.n c.quoted_from.ensures c.in-Spoiled.is)

pub returns-else-n : goal.returns-else-n
returns-else-n c = rw (← c.quoted_from.ensures, c.in-Closed.is, le-ltb (string_most + 1) c.in-Closed.n c.if-n.false)

pub returns-in-Spoiled : goal.returns-in-Spoiled
returns-in-Spoiled c = rw (← c.quoted_from.ensures, c.in-Spoiled.is)

pub returns-in-Unclosed : goal.returns-in-Unclosed
returns-in-Unclosed c = rw (← c.quoted_from.ensures, c.in-Unclosed.is)
