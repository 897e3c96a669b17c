-- Mechanism, of contracts alone: no theorem holds it to the specification; a line and a column are what is said here.
-- A place of a text as a clerk counts it: lines end at LF, and lines and columns count from 1 (document 01, "Bytes count from 0, lines from 1").
use Rattle.std.specs.Prelude.{List, [], ◌∷◌, ℕ, ◌+◌, eqb, take}
use Rattle.base_bytes.specs.Choice.{pick}
use Rattle.text_tokens.specs.declared.Position.{Position}

abbrev pub position : ℕ → ℕ → Position
position l c = record { line = l; column = c }

-- the position behind these bytes, from line l and column c on
unfoldable pub behind : ℕ → ℕ → List ℕ → Position
behind l c [] = position l c
behind l c (b ∷ s) = pick (eqb b 10) (behind (l + 1) 1 s) (behind l (c + 1) s)

-- the position of the byte at a place; of every place past the end, the position behind the last byte
abbrev pub position_of : List ℕ → ℕ → Position
position_of t i = behind 1 1 (take i t)
