use Rattle.spec_account.specs.Refused.{last_line}
use lib.ListN.{drop, take}
use mathlib.Core.List.{[]}
use mathlib.Core.Path.{◌≡◌}
use Prim.Native.Nat.{◌≤◌}
use Rattle.show_answers.proofs.line_start.Given as goal

abbrev pub invariant-loop-k : goal.invariant-loop-k
invariant-loop-k l = (l.start ≤ l.k) × (last_line [] l.s ≡ last_line (drop l.start (take l.k l.s)) (drop l.k l.s))
