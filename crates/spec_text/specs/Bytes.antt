-- The classes of bytes: document 01, "The edition we read", Bytes.
use Rattle.std.specs.Prelude.{Bool, ℕ, eqb, leb}
use Rattle.base_bytes.specs.Choice.{both, either}

abbrev pub within : ℕ → ℕ → ℕ → Bool
within lo hi b = both (leb lo b) (leb b hi)

-- "blanks are space, tab, CR, LF"
abbrev pub is_blank : ℕ → Bool
is_blank b = either (eqb b 32) (either (eqb b 9) (either (eqb b 13) (eqb b 10)))

-- "a letter or `_`"
abbrev pub is_letter : ℕ → Bool
is_letter b = either (within 65 90 b) (either (within 97 122 b) (eqb b 95))

-- "decimal digits"
abbrev pub is_digit : ℕ → Bool
is_digit b = within 48 57 b

-- "then letters, digits, `_`"
abbrev pub is_word : ℕ → Bool
is_word b = either (is_digit b) (is_letter b)

-- "of bytes 32 to 126 and 128 to 255"
abbrev pub is_plain : ℕ → Bool
is_plain b = either (within 32 126 b) (within 128 255 b)

-- "a backslash must be followed by `n`, `t`, `"` or a backslash"
abbrev pub is_escape : ℕ → Bool
is_escape b = either (eqb b 110) (either (eqb b 116) (either (eqb b 34) (eqb b 92)))

abbrev pub quote : ℕ
quote = 34

abbrev pub backslash : ℕ
backslash = 92

abbrev pub slash : ℕ
slash = 47

abbrev pub star : ℕ
star = 42
