-- Document 01, "`%` in a format not followed by `d` or `%`", "a backslash must be followed by `n`, `t`, `"` or a backslash": worked examples, computed, on both sides: `%d`, `%%`, a bad `%` and one at the end; digits, signs and both ends of the range; escapes.
use Rattle.std.specs.Prelude.{ℕ, ◌≡◌, refl, List, [], ◌∷◌, ℤ, pos, negsuc}
use Rattle.spec_text.specs.Formats.{format_from, format_of, digits_by, decimal_of, escaped, formatted, opened, counted}

-- twice the number of `%d`, and one more if some `%` is bad: ``, `d`, `%d`, `%d%d`, `%%d`
asked : (format_of [] ≡ 0) × (format_of (100 ∷ []) ≡ 0) × (format_of (37 ∷ 100 ∷ []) ≡ 2) × (format_of (37 ∷ 100 ∷ 37 ∷ 100 ∷ []) ≡ 4) × (format_of (37 ∷ 37 ∷ 100 ∷ []) ≡ 0)
unfolding format_from
asked = (refl, refl, refl, refl, refl)

-- `%`, `%x`, `%x%d`, `%%%`
bad : (format_of (37 ∷ []) ≡ 1) × (format_of (37 ∷ 120 ∷ []) ≡ 1) × (format_of (37 ∷ 120 ∷ 37 ∷ 100 ∷ []) ≡ 3) × (format_of (37 ∷ 37 ∷ 37 ∷ []) ≡ 1)
unfolding format_from
bad = (refl, refl, refl, refl)

-- 0, 9, 10, -1, the greatest and the least value
numbers : (decimal_of (pos 0) ≡ 48 ∷ []) × (decimal_of (pos 9) ≡ 57 ∷ []) × (decimal_of (pos 10) ≡ 49 ∷ 48 ∷ []) × (decimal_of (negsuc 0) ≡ 45 ∷ 49 ∷ [])
    × (decimal_of (pos 2147483647) ≡ 50 ∷ 49 ∷ 52 ∷ 55 ∷ 52 ∷ 56 ∷ 51 ∷ 54 ∷ 52 ∷ 55 ∷ []) × (decimal_of (negsuc 2147483647) ≡ 45 ∷ 50 ∷ 49 ∷ 52 ∷ 55 ∷ 52 ∷ 56 ∷ 51 ∷ 54 ∷ 52 ∷ 56 ∷ [])
unfolding digits_by
numbers = (refl, refl, refl, refl, refl, refl)

-- `\n`, `\t`, `\"`, `\\`
escapes : (escaped 110 ≡ 10) × (escaped 116 ≡ 9) × (escaped 34 ≡ 34) × (escaped 92 ≡ 92)
unfolding escaped
escapes = (refl, refl, refl, refl)

-- behind nothing `a` and `%`; behind a `%` `d`, which writes the value, and `%`; behind a backslash `n`
writes : (formatted [] 0 97 0 ≡ 97 ∷ []) × (formatted [] 0 37 0 ≡ []) × (formatted (pos 7 ∷ []) 37 100 0 ≡ 55 ∷ []) × (formatted [] 37 37 0 ≡ 37 ∷ []) × (formatted [] 92 110 0 ≡ 10 ∷ [])
unfolding formatted digits_by escaped
writes = (refl, refl, refl, refl, refl)

-- a `%` opens, but not behind another or behind a backslash; only `%d` counts
goes_on : (opened 0 37 ≡ 37) × (opened 37 37 ≡ 0) × (opened 92 37 ≡ 0) × (counted 37 100 1 ≡ 2) × (counted 37 37 1 ≡ 1) × (counted 0 100 1 ≡ 1)
unfolding opened counted
goes_on = (refl, refl, refl, refl, refl, refl)
