use Rattle.rule_ceilings.specs.Ceilings as tops
use Rattle.rule_sheets.specs.Walks as walks
use lib.ListN.{length}
use Prim.Native.Nat.{◌+◌, ◌-◌, ◌≤◌, ◌*◌}
use mathlib.Core.Path.{◌≡◌}
use Rattle.rule_ceilings.proofs.total.Given as goal

abbrev pub invariant-loop-j : goal.invariant-loop-j
invariant-loop-j l = (l.n ≤ 4294967296 * l.j) × (l.n + walks.sum (tops.weight l.codes l.args l.homes l.which) l.j (length l.codes - l.j) ≡ tops.total l.codes l.args l.homes l.which)
