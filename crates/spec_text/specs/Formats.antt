-- Document 01, "Strings stand between `"`, of bytes 32 to 126 and 128 to 255; a backslash must be followed by `n`, `t`, `"` or a backslash", and row 5 of "What is answered": "`%` in a format
-- not followed by `d` or `%`". Which formats are so, how many values they ask for, and what they write.
use Rattle.std.specs.Prelude.{ℕ, zero, suc, ◌+◌, ◌*◌, ◌/◌, ◌%◌, Bool, true, false, List, [], ◌∷◌, ◌++◌, get_or, ℤ, pos, negsuc, eqb, ltb}
use Rattle.base_bytes.specs.Choice.{pick}

-- ## what a format asks for
-- how a format goes on at a byte, where `opened` says that the byte before is a `%` still to be explained:
-- 0 nothing, 1 a `%` opens, 2 a number (`%d`), 3 a bad `%`, 4 a `%` for itself (`%%`)
abbrev pub move_of : Bool → ℕ → ℕ
move_of opened b = pick opened (pick (eqb b 100) 2 (pick (eqb b 37) 4 3)) (pick (eqb b 37) 1 0)

-- a format with n `%d` so far, and 1 for `bad` if some `%` was followed by neither `d` nor `%`; one at the end is bad too.
-- A bad `%` is passed over by one byte and counting goes on. The quotes around it count as any other byte.
unfoldable pub format_from : Bool → ℕ → ℕ → List ℕ → ℕ
format_from opened n bad [] = 2 * n + pick opened 1 bad
format_from opened n bad (b ∷ s) = format_from (eqb (move_of opened b) 1) (n + pick (eqb (move_of opened b) 2) 1 0) (pick (eqb (move_of opened b) 3) 1 bad) s

-- twice the number of `%d`, and one more if some `%` is bad
abbrev pub format_of : List ℕ → ℕ
format_of s = format_from false 0 0 s

-- ## numbers
-- the decimal digits of a number, no zero in front; at most f of them, and ten are enough for every number that a text can hold
unfoldable pub digits_by : ℕ → ℕ → List ℕ
digits_by zero n = []
digits_by (suc f) n = pick (ltb n 10) ((48 + n) ∷ []) (digits_by f (n / 10) ++ (48 + n % 10) ∷ [])

abbrev pub digits_of : ℕ → List ℕ
digits_of n = digits_by 10 n

-- in signed decimal
abbrev pub decimal_of : ℤ → List ℕ
decimal_of (pos n) = digits_of n
decimal_of (negsuc n) = 45 ∷ digits_of (n + 1)

-- ## what a format writes; `l` holds the values that it asks for
-- the byte that a backslash and b mean
unfoldable pub escaped : ℕ → ℕ
escaped b = pick (eqb b 110) 10 (pick (eqb b 116) 9 b)

-- what the byte b writes, which stands behind `was`: a backslash (92) or a `%` (37) that is open, or 0; k numbers are written before
unfoldable pub formatted : List ℤ → ℕ → ℕ → ℕ → List ℕ
formatted l was b k =
    pick (eqb was 92) (escaped b ∷ [])
    (pick (eqb was 37) (pick (eqb b 100) (decimal_of (get_or l k (pos 0))) (b ∷ []))
    (pick (eqb b 92) [] (pick (eqb b 37) [] (b ∷ []))))

-- what is open behind it
unfoldable pub opened : ℕ → ℕ → ℕ
opened was b = pick (eqb was 92) 0 (pick (eqb was 37) 0 (pick (eqb b 92) 92 (pick (eqb b 37) 37 0)))

-- how many numbers are written then
unfoldable pub counted : ℕ → ℕ → ℕ → ℕ
counted was b k = pick (eqb was 37) (pick (eqb b 100) (k + 1) k) k
