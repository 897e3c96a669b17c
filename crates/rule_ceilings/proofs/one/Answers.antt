use Rattle.rule_ceilings.specs.Ceilings as tops
use native.Mathlib.Omega.{arith}
use Rattle.rule_ceilings.proofs.one.Goals as goal

pub returns-then-among : goal.returns-then-among
unfolding tops.one
returns-then-among c = record { value = rw (← c.among.ensures, c.if-among.true); upper_bound = omega arith }

pub returns-else-among : goal.returns-else-among
unfolding tops.one
returns-else-among c = record { value = rw (← c.among.ensures, c.if-among.false); upper_bound = omega arith }
