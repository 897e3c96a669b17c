use mathlib.Core.Path.{◌≡◌}
use Prim.Native.Nat.{◌+◌, ◌-◌, ◌*◌, ◌≤◌}
use lib.ListN.{get_or}
use Rattle.rule_sheets.specs.Walks as walks
use Rattle.rule_ceilings.specs.Ceilings.{numbers_at}
use Rattle.link_items.proofs.offset_at.Given as goal

abbrev pub invariant-loop-j : goal.invariant-loop-j
invariant-loop-j l = (l.n ≤ 4294967296 * l.j) × (l.n + walks.sum (numbers_at l.codes l.args l.homes (get_or l.homes l.d 0)) l.j (l.d - l.j) ≡ walks.sum (numbers_at l.codes l.args l.homes (get_or l.homes l.d 0)) 0 l.d)
