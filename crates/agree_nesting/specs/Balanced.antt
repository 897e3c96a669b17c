-- Bridge, for `demand2` (crate `demands`).
-- Items in which what opens a selection or an option is closed, each inside of what it opens in: docs/TABLES.md, "Links".
use Rattle.std.specs.Prelude.{ℕ, ◌<◌, ◌≤◌, ◌≡◌, ◌⊎◌, List, [], ◌∷◌, ◌++◌, length, get_or}
use Rattle.base_codes.specs.Codes.{c_end_option, c_if, c_label}
use Rattle.base_codes.specs.Items.{Item, code_of, i_do, i_end_option, i_fi, i_if, i_od, i_option, i_plain}

-- the number of a pair, what opens it, and what closes it (specs/Sets.antt of `base_codes`): 0 selections, 2 options
pub data Pair : ℕ → Item → Item → Type 0 where
  if_fi : Pair 0 i_if i_fi
  do_od : Pair 0 i_do i_od
  an_option : Pair 2 i_option i_end_option

-- an item that opens or closes neither
abbrev pub Neither : Item → Type 0
Neither x = (code_of x < c_if) ⊎ (c_end_option < code_of x)

-- an option begins with a statement, and where that has a label, something stands behind it
abbrev pub Begun : List Item → Type 0
Begun l = (1 ≤ length l) × (code_of (get_or l 1 i_plain) ≡ c_label → 3 ≤ length l)

pub data Balanced : List Item → Type 0 where
  none : Balanced []
  other : {x : Item} {l : List Item} → Neither x → Balanced l → Balanced (x ∷ l)
  pair : {q : ℕ} {x y : Item} {m l : List Item} → Pair q x y → (q ≡ 2 → Begun m) → Balanced m → Balanced l → Balanced (x ∷ (m ++ (y ∷ l)))
