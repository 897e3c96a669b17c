use Rattle.rule_ceilings.specs.Ceilings as tops
use Rattle.rule_sheets.specs.Walks as walks
use lib.ListN.{length}
use Prim.Native.Nat.{◌+◌, ◌-◌, ◌≤◌, ◌*◌}
use mathlib.Core.Path.{◌≡◌}
use Rattle.rule_ceilings.proofs.numbers.Given as goal

abbrev pub invariant-loop-j : goal.invariant-loop-j
invariant-loop-j l = (l.n ≤ 4294967296 * l.j) × (l.n + walks.sum (tops.numbers_at l.codes l.args l.homes l.h) l.j (length l.codes - l.j) ≡ tops.numbers l.codes l.args l.homes l.h)
