use Prim.Native.Nat.{◌-◌}
use mathlib.Core.Path.{◌≡◌}
use mathlib.Core.Bool.{false}
use mathlib.Core.List.{◌++◌}
use lib.ListN.{take}
use Rattle.table_layout.specs.Access.{code_of}
use Rattle.write_texts.specs.Turning.{marks, blanked}
use Rattle.write_texts.proofs.mark.Given as goal

abbrev pub invariant-loop-i : goal.invariant-loop-i
invariant-loop-i l = take l.i l.codes ++ blanked (l.from - l.i) (marks l.b (code_of l.t) l.i (l.n - l.i)) ≡ blanked l.from (marks false (code_of l.t) 0 l.n)
