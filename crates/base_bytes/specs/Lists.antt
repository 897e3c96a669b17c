-- Lists of bytes and numbers: are two the same, a part of one, and one laid over the front of another.
use Rattle.std.specs.Prelude.{Bool, true, false, List, [], ◌∷◌, ◌++◌, ℕ, ◌-◌, min, eqb, length, take, drop}
use Rattle.base_bytes.specs.Choice.{both}

unfoldable pub same : List ℕ → List ℕ → Bool
same [] [] = true
same [] (y ∷ ys) = false
same (x ∷ xs) [] = false
same (x ∷ xs) (y ∷ ys) = both (eqb x y) (same xs ys)

-- the part from a place to a place, as far as there is one
abbrev pub piece : List ℕ → ℕ → ℕ → List ℕ
piece text from to = take (min to (length text) - min from (min to (length text))) (drop (min from (min to (length text))) text)

-- the first n of xs, as far as there are so many in both, and then what ys has behind them
abbrev pub pasted : {A : Type 0} → ℕ → List A → List A → List A
pasted n xs ys = take (min n (min (length xs) (length ys))) xs ++ drop (min n (min (length xs) (length ys))) ys

-- the first list, unless it is empty
abbrev pub or_else : List ℕ → List ℕ → List ℕ
or_else [] ys = ys
or_else (x ∷ xs) ys = x ∷ xs
