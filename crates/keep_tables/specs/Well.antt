-- Bridge, for `demand2` (crate `demands`).
-- What the tables of a model are like, as far as the laws on its trees and states need it: the rows of docs/TABLES.md, "Links", and the ceilings of document 01, each as
-- one plain fact of items and links. `t` are tables, u an item that begins a unit with a body.
use Rattle.std.specs.Prelude.{ℕ, ◌-◌, ◌/◌, ◌%◌, ◌≤◌, ◌<◌, ◌≡◌, true, List, ◌⊎◌}
use Rattle.base_ceilings.specs.Ceilings.{items_most}
use Rattle.base_codes.specs.Codes.{c_init, c_proctype}
use Rattle.table_layout.specs.Access.{items_of, code_of, link_of}
use Rattle.step_eval.specs.Variables.{size_of}
use Rattle.state_types.specs.Fits.{is_local}
use Rattle.state_check.specs.Standing.{place_at}

module _ (t : List ℕ) where
  -- item u begins a unit with a body: proctype, active, active-many or init
  abbrev pub Unit : ℕ → Type 0
  Unit u = (u < items_of t) × (c_proctype ≤ code_of t u) × (code_of t u ≤ c_init)

  -- item j stands in the unit, before its end
  abbrev pub Inside : ℕ → ℕ → Type 0
  Inside u j = (u < j) × (j < link_of t u)

  -- q is the end of the unit or the place of one of its statements
  abbrev pub Stop : ℕ → ℕ → Type 0
  Stop u q = (q ≡ link_of t u) ⊎ ((u < q) × (q < link_of t u) × (place_at t q ≡ true))

pub record Well (t : List ℕ) : Type 0 where
  pub few : (1 ≤ items_of t) × (items_of t ≤ items_most)
  -- each variable has a number, and those of a unit are local
  pub sized : (d : ℕ) → d < items_of t → is_local t d ≡ true → 1 ≤ size_of (link_of t d)
  pub locals_local : (u d : ℕ) → Unit t u → Inside t u d → is_local t d ≡ true → link_of t d / 8 % 2 ≡ 1
