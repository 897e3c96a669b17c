use Rattle.spec_account.specs.Refused.{first_line}
use lib.ListN.{length, drop}
use mathlib.Core.Path.{◌≡◌}
use Prim.Native.Nat.{◌+◌}
use Rattle.show_answers.proofs.line_stop.Given as goal

abbrev pub invariant-loop-k : goal.invariant-loop-k
invariant-loop-k l = l.k + length (first_line (drop l.k l.s)) ≡ length (first_line l.s)
