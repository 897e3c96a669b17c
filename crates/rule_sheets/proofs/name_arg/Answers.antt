use Rattle.rule_sheets.specs.Payload.{name_arg, spelled}
use Prim.Native.Nat.{◌+◌}
use mathlib.Core.Path.{ap}
use native.Mathlib.Omega.{arith}
use Rattle.rule_sheets.proofs.name_arg.Goals as goal

pub returns-then-same : goal.returns-then-same
unfolding name_arg spelled
returns-then-same c = record { value = rw (← c.word_at-t.ensures.value, ← c.word_at.ensures.value, ← c.word_at-2.ensures.value, ← c.part.ensures, ← c.same.ensures, c.if-same.true); upper_bound = omega arith }

pub returns : goal.returns
unfolding name_arg spelled
returns c = record { value = rw (← c.word_at-t.ensures.value, ← c.word_at.ensures.value, ← c.word_at-2.ensures.value, ← c.part.ensures, ← c.same.ensures, c.if-same.false) (ap (λ x. x + 1) c.first_same.ensures.value); upper_bound = omega (arith, c.first_same.ensures.upper_bound) }
