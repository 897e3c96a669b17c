-- Mechanism, held to the specification by `reading_exact` (crate `text_spacing_proof`) and `reading_spoils` (crate `text_spoils_proof`).
-- The tokens of a whole text, or its refusal: document 01, "The edition we read", Bytes; "Ceilings"; rows 1 and 2 of "What is answered".
-- The text is read from its front, piece by piece, so that the first refusal met is the one of the smallest place.
use Rattle.std.specs.Prelude.{List, [], ◌∷◌, ℕ, zero, suc, ◌+◌, ◌-◌, ltb, length}
use Rattle.base_ceilings.specs.Ceilings.{text_most, tokens_most}
use Rattle.base_bytes.specs.Choice.{pick}
use Rattle.spec_text.specs.Placed.{Placed, placed}
use Rattle.text_pieces.specs.Pieces.{piece_of}
use Rattle.text_pieces.specs.declared.Piece.{Piece}
use Rattle.text_pieces.specs.declared.Piece.TheVariants.{Skip, Take, Stop}

-- the tokens in text order, or a refusal with its number, the place of its first byte and its length
pub data Reading : Type 0 where
  tokens : List Placed → Reading
  refused : ℕ → ℕ → ℕ → Reading

abbrev pub before : Placed → Reading → Reading
before p (tokens ps) = tokens (p ∷ ps)
before p (refused x i n) = refused x i n

-- what a piece at place i leads to, where `left` tokens more may come: "tokens 2,048" is passed at the token itself
abbrev pub follow : Piece → ℕ → ℕ → (ℕ → ℕ → Reading) → Reading
follow (Skip n) i left rest = rest n left
follow (Stop x n) i left rest = refused x i n
follow (Take k n) i zero rest = refused 2 i n
follow (Take k n) i (suc left) rest = before (placed k i n) (rest n left)

-- the text from place i on, whose first `passed` bytes belong to the piece before
unfoldable pub read_from : ℕ → ℕ → ℕ → List ℕ → Reading
read_from i left passed [] = tokens []
read_from i left (suc m) (b ∷ s) = read_from (i + 1) left m s
read_from i left zero (b ∷ s) = follow (piece_of (b ∷ s)) i left (λ n l. read_from (i + 1) l (n - 1) s)

-- the whole text; "texts up to 65,536 bytes" (request One), and the place of a longer one is 0
abbrev pub reading : List ℕ → Reading
reading t = pick (ltb text_most (length t)) (refused 2 0 0) (read_from 0 tokens_most 0 t)
