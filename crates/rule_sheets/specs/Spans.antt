-- Mechanism, held to the specification by `rules` (crate `legal_texts`).
-- For an expression, which is in postfix, that ends at an item: where it starts, and its height. Document 01, "Ceilings": expression height 32 (operand 1;
-- operator, index, `len` 1 above its highest part). Parentheses add nothing: the items have none. A conditional is 1 above its highest part; `len(c)` is 2.
use Rattle.std.specs.Prelude.{ℕ, ◌+◌, ◌-◌, min, List, length, get_or, eqb, ltb, leb}
use Rattle.base_ceilings.specs.Ceilings.{height_most, items_most}
use Rattle.base_codes.specs.Codes.{c_bit, c_choice, c_index, c_len, c_negate, c_plain, c_remainder}
use Rattle.base_bytes.specs.Choice.{pick, both, either}
use Rattle.rule_sheets.specs.Walks.{filled}

-- how an expression's last item builds on what stands before it:
-- 1 name plain | 2 name A index | 3 A len, A unary | 4 A B binary | 5 A B otherwise C choice | 0 any other
unfoldable pub shape_of : ℕ → ℕ
shape_of c =
    pick (eqb c c_plain) 1
    (pick (eqb c c_index) 2
    (pick (either (eqb c c_len) (both (ltb c_remainder c) (ltb c c_bit))) 3
    (pick (both (ltb 146 c) (ltb c c_negate)) 4
    (pick (eqb c c_choice) 5 0))))

-- the last operand of item j ends at j - 1. Where it starts at s, the one before it ends at s - 1, and the middle one of a conditional at s - 2.
unfoldable pub start_of : List ℕ → List ℕ → ℕ → ℕ
start_of cs starts j =
    pick (eqb (shape_of (get_or cs j 0)) 1) (j - 1)
    (pick (eqb (shape_of (get_or cs j 0)) 2) (get_or starts (j - 1) 0 - 1)
    (pick (eqb (shape_of (get_or cs j 0)) 3) (get_or starts (j - 1) 0)
    (pick (eqb (shape_of (get_or cs j 0)) 4) (get_or starts (get_or starts (j - 1) 0 - 1) 0)
    (pick (eqb (shape_of (get_or cs j 0)) 5) (get_or starts (get_or starts (get_or starts (j - 1) 0 - 2) 0 - 1) 0) j))))

-- one above h, where 33 stands for every height that is too great
abbrev pub above : ℕ → ℕ
above h = min (height_most + 1) (h + 1)

abbrev pub greater : ℕ → ℕ → ℕ
greater a b = pick (leb a b) b a

unfoldable pub height_of : List ℕ → List ℕ → List ℕ → ℕ → ℕ
height_of cs starts heights j =
    pick (eqb (shape_of (get_or cs j 0)) 2) (above (get_or heights (j - 1) 0))
    (pick (eqb (shape_of (get_or cs j 0)) 3) (above (get_or heights (j - 1) 0))
    (pick (eqb (shape_of (get_or cs j 0)) 4) (above (greater (get_or heights (j - 1) 0) (get_or heights (get_or starts (j - 1) 0 - 1) 0)))
    (pick (eqb (shape_of (get_or cs j 0)) 5)
    (above (greater (get_or heights (j - 1) 0) (greater (get_or heights (get_or starts (j - 1) 0 - 2) 0) (get_or heights (get_or starts (get_or starts (j - 1) 0 - 2) 0 - 1) 0))))
    1)))

-- the arrays of these, each from what is filled before it; left as they are where there are too many items
unfoldable pub starts_of : List ℕ → List ℕ → List ℕ
starts_of cs starts = pick (ltb items_most (length cs)) starts (filled (start_of cs) 0 (length cs) starts)

unfoldable pub heights_of : List ℕ → List ℕ → List ℕ → List ℕ
heights_of cs starts heights = pick (ltb items_most (length cs)) heights (filled (height_of cs starts) 0 (length cs) heights)
