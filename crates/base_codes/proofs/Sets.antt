-- THE TESTS OF THE SETS SAY WHAT THE ROWS SAY, for every code below 256: one test, computed by antt.
use Prim.Native.Nat.{ℕ, zero, suc}
use mathlib.Core.Path.{◌≡◌, refl}
use mathlib.Core.Bool.{Bool}
use mathlib.Core.List.{List, [], ◌∷◌}
use Rattle.base_bytes.specs.Choice.{pick}
use Rattle.base_codes.specs.Sets.{Set, part, alone, lead, opener, statement, naming, unit, opens, closes, Row, row, rows, within, is_part, is_alone, is_lead, is_opener, is_statement, is_naming, is_unit, is_opening, is_closing, rule_of, class_of}

abbrev given : Set → Bool → List Set → List Set
given s b l = pick b (s ∷ l) l

-- what the tests say of a code
abbrev tested : ℕ → Row
tested c =
    row c c (rule_of c) (class_of c)
    (given part (is_part c) (given alone (is_alone c) (given lead (is_lead c) (given opener (is_opener c) (given statement (is_statement c) (given naming (is_naming c) (given unit (is_unit c)
    (given (opens 0) (is_opening 0 c) (given (opens 1) (is_opening 1 c) (given (opens 2) (is_opening 2 c)
    (given (closes 0) (is_closing 0 c) (given (closes 1) (is_closing 1 c) (given (closes 2) (is_closing 2 c) (given (closes 3) (is_closing 3 c) (given (closes 4) (is_closing 4 c) [])))))))))))))))

-- what the rows say of it; a code of no item is in no set
abbrev told : List Row → ℕ → Row
told [] c = row c c 0 0 []
told (x ∷ l) c = pick (within x.first x.last c) (row c c x.rule x.link x.sets) (told l c)

-- of each of the codes below n, the last first
abbrev below : (ℕ → Row) → ℕ → List Row
below f zero = []
below f (suc n) = f n ∷ below f n

pub tested-told : below tested 256 ≡ below (told rows) 256
unfolding is_part is_alone is_lead is_opening is_closing rule_of class_of
tested-told = refl
