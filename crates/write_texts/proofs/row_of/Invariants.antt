use Rattle.write_rows.specs.Rules as rules
use Prim.Native.Nat.{◌-◌}
use mathlib.Core.Path.{◌≡◌}
use lib.ListN.{length}
use Rattle.write_rows.specs.Rules.{rows}
use Rattle.write_texts.specs.Turning.{row_from}
use Rattle.write_texts.proofs.row_of.Given as goal

abbrev pub invariant-loop-r : goal.invariant-loop-r
invariant-loop-r l = row_from l.a l.c l.r (134 - l.r) ≡ row_from l.a l.c 0 (length rules.rows)
