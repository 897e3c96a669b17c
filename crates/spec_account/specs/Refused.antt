-- WHAT IS SHOWN OF A REFUSED TEXT: the line and the column of the refused part, its line, and marks under the part as far as it stands in that line; one mark where it is empty. Each line stands two blanks in.
-- Document 01: "Bytes count from 0, lines from 1"; columns count from 1.
use Rattle.std.specs.Prelude.{ℕ, ◌+◌, Bool, true, false, List, [], ◌∷◌, ◌++◌, length, take, drop, replicate, eqb}
use Rattle.base_bytes.specs.Choice.{pick}
use Rattle.base_kinds.specs.Kinds.{bytes}
use Rattle.spec_text.specs.Formats.{digits_of}
use Rattle.spec_account.specs.Bytes.{each_visible}

-- the bytes before the first line end
unfoldable pub first_line : List ℕ → List ℕ
first_line [] = []
first_line (b ∷ l) = pick (eqb b 10) [] (b ∷ first_line l)

-- the bytes behind the last line end, where `line` stands before the list
unfoldable pub last_line : List ℕ → List ℕ → List ℕ
last_line line [] = line
last_line line (b ∷ l) = pick (eqb b 10) (last_line [] l) (last_line (line ++ b ∷ []) l)

-- how many lines end in the list
unfoldable pub ends : List ℕ → ℕ
ends [] = 0
ends (b ∷ l) = pick (eqb b 10) (ends l + 1) (ends l)

-- as many of a mark as the bytes take when they are shown
abbrev pub under : ℕ → List ℕ → List ℕ
under mark l = replicate (length (each_visible l)) mark

abbrev pub marks : List ℕ → List ℕ
marks [] = 94 ∷ []
marks (b ∷ l) = under 94 (b ∷ l)

module _ (t : List ℕ) (i : ℕ) where
  -- the line of place i, before it and from it on
  abbrev pub line_before : List ℕ
  line_before = last_line [] (take i t)

  abbrev pub line_from : List ℕ
  line_from = first_line (drop i t)

  -- a part at place i, of n bytes
  unfoldable pub refused_at : ℕ → List ℕ
  refused_at n =
      bytes "  line " ++ (digits_of (ends (take i t) + 1) ++ (bytes " column " ++ (digits_of (length line_before + 1) ++ (bytes "\n  "
      ++ (each_visible (line_before ++ line_from) ++ (bytes "\n  " ++ (under 32 line_before ++ (marks (take n line_from) ++ bytes "\n"))))))))
