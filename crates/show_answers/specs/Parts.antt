-- Mechanism, of contracts alone: the parts of which `refused_at` (specs/Refused.antt of `spec_account`) is made.
use Rattle.std.specs.Prelude.{ℕ, ◌+◌, ◌≡◌, List, [], ◌++◌, length, drop}
use Rattle.base_kinds.specs.Kinds.{bytes}
use Rattle.spec_text.specs.Formats.{digits_of}
use Rattle.spec_account.specs.Bytes.{each_visible}
use Rattle.spec_account.specs.Refused.{last_line, ends}

-- the last line of a text begins at a place
abbrev pub Last : List ℕ → ℕ → Type 0
Last l r = last_line [] l ≡ drop r l

-- the line and the column of the place behind these bytes
abbrev pub where_text : List ℕ → List ℕ
where_text l = bytes "  line " ++ (digits_of (ends l + 1) ++ (bytes " column " ++ digits_of (length (last_line [] l) + 1)))

-- a line in two parts, two blanks in, and the margin of the next
abbrev pub line_text : List ℕ → List ℕ → List ℕ
line_text x y = bytes "\n  " ++ (each_visible x ++ (each_visible y ++ bytes "\n  "))
