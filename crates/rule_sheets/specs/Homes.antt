-- Mechanism, held to the specification by `rules` (crate `legal_texts`).
-- Which body each item is in. A body has the number of the item that begins its unit (proctype, active, active-many or init), and 1; all
-- behind that item through the end of the body is in it, so parameters are. What is in no body, and the item that begins a unit, has 0.
-- Document 01, "Names": globals, mtype names and proctypes share one space; locals and labels are per body.
use Rattle.std.specs.Prelude.{ℕ, zero, suc, ◌+◌, List, length, get_or, eqb, ltb}
use Rattle.base_ceilings.specs.Ceilings.{items_most}
use Rattle.base_codes.specs.Codes.{c_end_body}
use Rattle.base_bytes.specs.Choice.{pick}
use Rattle.rule_sheets.specs.Walks.{filled}
use Rattle.base_codes.specs.Sets.{is_unit}

-- the body behind item j, where it is in h
abbrev pub inside : ℕ → ℕ → ℕ → ℕ
inside c j h = pick (is_unit c) (j + 1) (pick (eqb c c_end_body) 0 h)

-- the body that is open before item j
unfoldable pub inside_of : List ℕ → ℕ → ℕ
inside_of cs zero = 0
inside_of cs (suc j) = inside (get_or cs j 0) j (inside_of cs j)

unfoldable pub home_of : List ℕ → ℕ → ℕ
home_of cs j = pick (is_unit (get_or cs j 0)) 0 (inside_of cs j)

-- the array of these; left as it is where there are too many items
unfoldable pub homes_of : List ℕ → List ℕ → List ℕ
homes_of cs homes = pick (ltb items_most (length cs)) homes (filled (λ l j. home_of cs j) 0 (length cs) homes)
