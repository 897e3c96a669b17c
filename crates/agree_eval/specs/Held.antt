-- Bridge, for `demand2` (crate `demands`).
-- That items stand in tables: each by its code, and a number by its value. `t` are tables.
use Rattle.std.specs.Prelude.{ℕ, suc, ◌≤◌, ◌≡◌, List, [], ◌∷◌}
use Rattle.base_ceilings.specs.Ceilings.{number_most}
use Rattle.table_layout.specs.Access.{code_of, number_of}
use Rattle.base_codes.specs.Codes.{c_number}
use Rattle.base_codes.specs.Items.{Item}
use Rattle.table_entries.specs.Items.{entry_of}
use Rattle.base_codes.specs.Items as items

-- "number 2,147,483,647"
abbrev pub Held : List ℕ → ℕ → List Item → Type 0
Held t i [] = Unit {0}
Held t i (x ∷ l) =
    (code_of t i ≡ items.code_of x) × (items.code_of x ≡ c_number → (number_of t i ≡ (entry_of x).value) × ((entry_of x).value ≤ number_most)) × Held t (suc i) l
