-- Mechanism, held to the specification by `reading_exact` (crate `text_spacing_proof`) and `reading_spoils` (crate `text_spoils_proof`).
-- One piece at the front of a text: a blank or a comment to skip, a token to take, or a refusal.
-- Document 01, "The edition we read", Bytes and Keywords; "Ceilings"; rows 1 and 2 of "What is answered".
use Rattle.std.specs.Prelude.{Option, Some, None, Bool, List, [], ◌∷◌, ℕ, ◌+◌, eqb, ltb, length, get_or, take, drop}
use Rattle.base_ceilings.specs.Ceilings.{number_most, string_most, word_most}
use Rattle.base_bytes.specs.Choice.{pick, both}
use Rattle.base_kinds.specs.Kinds.{marks, number_kind, string_kind}
use Rattle.spec_text.specs.Find.{find, word_kind}
use Rattle.spec_text.specs.Bytes.{is_blank, is_letter, is_digit, is_word, quote, slash, star}
use Rattle.text_pieces.specs.Spans.{span, closing, quoted}
use Rattle.spec_text.specs.Digits.{decimal}
use Rattle.text_pieces.specs.declared.Piece.{Piece}
use Rattle.text_pieces.specs.declared.Piece.TheVariants.{Skip, Take, Stop}
use Rattle.text_pieces.specs.declared.Quoted.{Quoted}
use Rattle.text_pieces.specs.declared.Quoted.TheVariants.{Closed, Spoiled, Unclosed}

-- "Words start with a letter or `_`, then letters, digits, `_`"; "word 32 bytes"
abbrev pub word_of : List ℕ → ℕ → Piece
word_of s n = pick (ltb word_most n) (Stop 2 n) (Take (word_kind (take n s)) n)

-- "Numbers are decimal digits"; "number 2,147,483,647", by value
abbrev pub number_of : List ℕ → ℕ → Piece
number_of s n = pick (ltb number_most (decimal (take n s))) (Stop 2 n) (Take number_kind n)

-- "Strings stand between `"`"; "string 64 bytes between quotes". s begins behind the opening quote, and m bytes of it are left
abbrev pub string_of : Quoted → ℕ → Piece
string_of (Closed n) m = pick (ltb (string_most + 1) n) (Stop 2 (n + 1)) (Take string_kind (n + 1))
string_of (Spoiled n) m = Stop 1 (n + 1)
string_of Unclosed m = Stop 1 (m + 1)

-- a comment, m bytes being left behind its opening `/*`
abbrev pub comment_of : Option ℕ → ℕ → Piece
comment_of (Some n) m = Skip (n + 2)
comment_of None m = Stop 1 (m + 2)

-- "Marks: .. The longest token wins": two bytes if they are a mark, else one; 0 stands for the end of the text, and is no byte of a mark
abbrev pub mark_of : ℕ → ℕ → Piece
mark_of a b =
    pick (eqb (find (a ∷ b ∷ []) marks 1) 0)
    (pick (eqb (find (a ∷ []) marks 1) 0) (Stop 1 1) (Take (find (a ∷ []) marks 1) 1))
    (Take (find (a ∷ b ∷ []) marks 1) 2)

unfoldable pub piece_of : List ℕ → Piece
piece_of [] = Skip 0
piece_of (b ∷ s) =
    pick (is_blank b) (Skip 1)
    (pick (is_letter b) (word_of (b ∷ s) (span is_word (b ∷ s)))
    (pick (is_digit b) (number_of (b ∷ s) (span is_digit (b ∷ s)))
    (pick (eqb b quote) (string_of (quoted Bool.false s) (length s))
    (pick (both (eqb b slash) (eqb (get_or s 0 0) star)) (comment_of (closing Bool.false (drop 1 s)) (length (drop 1 s)))
    (mark_of b (get_or s 0 0))))))
