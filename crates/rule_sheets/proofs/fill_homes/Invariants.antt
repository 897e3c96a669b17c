use Rattle.base_ceilings.specs.Ceilings.{items_most}
use Rattle.rule_sheets.specs.Homes as homing
use Rattle.rule_sheets.specs.Walks as walks
use lib.ListN.{length}
use Prim.Native.Nat.{◌-◌, ◌<◌, ◌+◌}
use mathlib.Core.Path.{◌≡◌}
use Rattle.rule_sheets.proofs.fill_homes.Given as goal

abbrev pub invariant-loop-j : goal.invariant-loop-j
invariant-loop-j l = (l.h ≡ homing.inside_of l.codes l.j) × (l.h < items_most + 1) × (walks.filled (λ l' i. homing.home_of l.codes i) l.j (length l.codes - l.j) l.homes ≡ homing.homes_of l.codes l.initial.homes)
