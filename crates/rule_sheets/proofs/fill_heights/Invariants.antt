use Rattle.rule_sheets.specs.Spans as spans
use Rattle.rule_sheets.specs.Walks as walks
use lib.ListN.{length}
use Prim.Native.Nat.{◌-◌}
use mathlib.Core.Path.{◌≡◌}
use Rattle.rule_sheets.proofs.fill_heights.Given as goal

abbrev pub invariant-loop-j : goal.invariant-loop-j
invariant-loop-j l = walks.filled (spans.height_of l.codes l.starts) l.j (length l.codes - l.j) l.heights ≡ spans.heights_of l.codes l.starts l.initial.heights
