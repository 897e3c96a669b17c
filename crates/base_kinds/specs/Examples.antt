-- The binding levels of the eighteen operators, table 3.2 of source document 002, and on both sides of them.
use Rattle.std.specs.Prelude.{◌≡◌, refl, List, [], ◌∷◌, map, ℕ}
use Rattle.base_kinds.specs.Kinds.{level}

levels : map level (1 ∷ 2 ∷ 3 ∷ 4 ∷ 5 ∷ 6 ∷ 7 ∷ 8 ∷ 9 ∷ 10 ∷ 11 ∷ 12 ∷ 13 ∷ 14 ∷ 15 ∷ 16 ∷ 17 ∷ 18 ∷ []) ≡ 1 ∷ 2 ∷ 3 ∷ 4 ∷ 5 ∷ 6 ∷ 6 ∷ 7 ∷ 7 ∷ 7 ∷ 7 ∷ 8 ∷ 8 ∷ 9 ∷ 9 ∷ 10 ∷ 10 ∷ 10 ∷ []
levels = refl

no_levels : map level (0 ∷ 19 ∷ 20 ∷ []) ≡ 0 ∷ 0 ∷ 0 ∷ []
no_levels = refl
