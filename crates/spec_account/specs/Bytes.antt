-- HOW BYTES ARE SHOWN that may be any: printable ASCII as itself, any other as `\x` and two digits to the base 16. What a model prints stands each line two blanks in, with its backslashes by number too,
-- so that what is shown determines what was printed (`shown_determines`, proofs/Bytes.antt); a line end ends a line and is not shown.
use Rattle.std.specs.Prelude.{ℕ, ◌+◌, ◌/◌, ◌%◌, Bool, true, false, List, [], ◌∷◌, ◌++◌, eqb, ltb, leb}
use Rattle.base_bytes.specs.Choice.{pick, both, either}

unfoldable pub hex_digit : ℕ → ℕ
hex_digit n = pick (ltb n 10) (48 + n) (87 + n % 16)

abbrev pub coded : ℕ → List ℕ
coded b = 92 ∷ 120 ∷ hex_digit (b / 16) ∷ hex_digit (b % 16) ∷ []

-- printable ASCII
unfoldable pub is_visible : ℕ → Bool
is_visible b = pick (leb 32 b) (leb b 126) false

unfoldable pub visible : ℕ → List ℕ
visible b = pick (is_visible b) (b ∷ []) (coded b)

unfoldable pub each_visible : List ℕ → List ℕ
each_visible [] = []
each_visible (b ∷ l) = visible b ++ each_visible l

-- in a statement a backslash (92) is one of a string, where `n` (110), `t` (116), a quote (34) or a backslash follows it; `behind` says that one stands before the list
unfoldable pub is_escapable : ℕ → Bool
is_escapable b = either (either (eqb b 110) (eqb b 116)) (either (eqb b 34) (eqb b 92))

unfoldable pub is_paired_from : Bool → List ℕ → Bool
is_paired_from true [] = false
is_paired_from false [] = true
is_paired_from true (b ∷ l) = both (is_escapable b) (is_paired_from false l)
is_paired_from false (b ∷ l) = is_paired_from (eqb b 92) l

abbrev pub is_paired : List ℕ → Bool
is_paired l = is_paired_from false l

-- printable ASCII but for the backslash, which marks what is not shown as itself
unfoldable pub is_plain : ℕ → Bool
is_plain b = pick (eqb b 92) false (pick (leb 32 b) (leb b 126) false)

unfoldable pub escaped : ℕ → List ℕ
escaped b = pick (is_plain b) (b ∷ []) (coded b)

unfoldable pub each_escaped : List ℕ → List ℕ
each_escaped [] = []
each_escaped (b ∷ l) = escaped b ++ each_escaped l

unfoldable pub margin : Bool → List ℕ
margin true = 32 ∷ 32 ∷ []
margin false = []

-- a byte that is printed, which begins a line or does not
unfoldable pub shown_byte : Bool → ℕ → List ℕ
shown_byte fresh b = margin fresh ++ pick (eqb b 10) (10 ∷ []) (escaped b)

unfoldable pub shown : Bool → List ℕ → List ℕ
shown fresh [] = []
shown fresh (b ∷ l) = shown_byte fresh b ++ shown (eqb b 10) l

-- each line that begins in the list has its two blanks; `fresh` says that one begins where the list does
unfoldable pub indented : Bool → List ℕ → Bool
indented fresh [] = true
indented true (a ∷ []) = false
indented true (a ∷ b ∷ l) = pick (eqb a 32) (pick (eqb b 32) (indented false l) false) false
indented false (b ∷ l) = indented (eqb b 10) l
