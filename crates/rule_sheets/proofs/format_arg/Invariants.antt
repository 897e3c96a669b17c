use mathlib.Core.Bool.{false}
use Rattle.spec_text.specs.Formats as asked
use lib.ListN.{drop}
use Prim.Native.Nat.{◌≤◌}
use mathlib.Core.Path.{◌≡◌}
use Rattle.rule_sheets.proofs.format_arg.Given as goal

abbrev pub invariant-loop-b : goal.invariant-loop-b
invariant-loop-b l = (l.n ≤ l.b-index) × (l.bad ≤ 1) × (asked.format_from l.opened l.n l.bad (drop l.b-index l.s) ≡ asked.format_from false 0 0 l.s)
