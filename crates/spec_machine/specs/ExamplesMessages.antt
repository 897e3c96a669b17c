-- Document 01, "How it moves": "a receive when it is not empty and each constant and `eval` equals its field". Messages put, found and taken out at the ends and in the middle of a list, on both
-- sides of each boundary, computed.
use Rattle.std.specs.Prelude.{ℕ, ◌≡◌, refl, List, [], ◌∷◌, get_or, pos, Result, Ok, Err, ℤ}
use Rattle.base_values.specs.declared.Fault.{Fault}
use Rattle.base_values.specs.declared.Fault.TheVariants.{Divide}
use Rattle.spec_machine.specs.Messages.{put_at, take_at_lem, found, none, spoilt, find_from}

abbrev three : List ℕ
three = 5 ∷ 6 ∷ 7 ∷ []

-- ## put: in front, before and behind the one in the middle, and behind them all
put : (put_at 0 9 three ≡ 9 ∷ 5 ∷ 6 ∷ 7 ∷ []) × (put_at 1 9 three ≡ 5 ∷ 9 ∷ 6 ∷ 7 ∷ []) × (put_at 2 9 three ≡ 5 ∷ 6 ∷ 9 ∷ 7 ∷ []) × (put_at 3 9 three ≡ 5 ∷ 6 ∷ 7 ∷ 9 ∷ [])
put = (refl, refl, refl, refl)

-- ## taken out: the oldest, the one in the middle, the last; behind the last there is none
taken : (take_at_lem 0 three ≡ 6 ∷ 7 ∷ []) × (take_at_lem 1 three ≡ 5 ∷ 7 ∷ []) × (take_at_lem 2 three ≡ 5 ∷ 6 ∷ []) × (take_at_lem 3 three ≡ three)
taken = (refl, refl, refl, refl)

-- what was put is taken out again, and only there
again : (take_at_lem 1 (put_at 1 9 three) ≡ three) × (take_at_lem 2 (put_at 1 9 three) ≡ 5 ∷ 9 ∷ 7 ∷ [])
again = (refl, refl)

-- ## found: the tests of four messages say no, no, yes, yes
abbrev says : List (Result ℤ Fault) → ℕ → Result ℤ Fault
says l k = get_or l k (Ok (pos 0))

abbrev four : ℕ → Result ℤ Fault
four = says (Ok (pos 0) ∷ Ok (pos 0) ∷ Ok (pos 1) ∷ Ok (pos 1) ∷ [])

-- the first that passes, if so many are tried; from the one behind it on, the next
first_found : (find_from four 0 4 ≡ found 2) × (find_from four 0 3 ≡ found 2) × (find_from four 0 2 ≡ none) × (find_from four 0 0 ≡ none) × (find_from four 3 1 ≡ found 3)
unfolding find_from
first_found = (refl, refl, refl, refl, refl)

-- a test at fault ends the search, before one that would pass and not behind it
first_spoilt : (find_from (says (Ok (pos 0) ∷ Err Divide ∷ Ok (pos 1) ∷ [])) 0 3 ≡ spoilt Divide) × (find_from (says (Ok (pos 0) ∷ Ok (pos 1) ∷ Err Divide ∷ [])) 0 3 ≡ found 1)
unfolding find_from
first_spoilt = (refl, refl)
