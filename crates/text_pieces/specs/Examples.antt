-- Mechanism: worked examples, computed from its definitions; they are held to nothing else.
-- Pieces of small texts, each side of every boundary that fits a line.
use Rattle.std.specs.Prelude.{◌≡◌, refl, List, [], ◌∷◌, ◌++◌, ℕ, replicate}
use Rattle.base_bytes.specs.Lists.{same}
use Rattle.base_kinds.specs.Kinds.{bytes}
use Rattle.text_pieces.specs.Spans.{span, closing, quoted}
use Rattle.spec_text.specs.Digits.{decimal_from}
use Rattle.spec_text.specs.Find.{find}
use Rattle.text_pieces.specs.Pieces.{piece_of}
use Rattle.text_pieces.specs.declared.Piece.{Piece}
use Rattle.text_pieces.specs.declared.Piece.TheVariants.{Skip, Take, Stop}

-- what the pieces at the front of some texts are
abbrev pieces : List (List ℕ) → List Piece
pieces [] = []
pieces (t ∷ ts) = piece_of t ∷ pieces ts

words : pieces (bytes "if" ∷ bytes "iff" ∷ bytes "_if 1" ∷ bytes "d_step;" ∷ bytes "_pid" ∷ bytes "init{" ∷ [])
    ≡ (Take 55 2 ∷ Take 70 3 ∷ Take 70 3 ∷ Take 67 6 ∷ Take 70 4 ∷ Take 56 4 ∷ [])
unfolding piece_of span decimal_from find closing quoted same
words = refl

long_words : pieces (replicate 32 97 ∷ replicate 33 97 ∷ []) ≡ (Take 70 32 ∷ Stop 2 33 ∷ [])
unfolding piece_of span decimal_from find closing quoted same
long_words = refl

numbers : pieces (bytes "1fi" ∷ bytes "2147483647" ∷ bytes "2147483648" ∷ bytes "0000000000002147483647 " ∷ [])
    ≡ (Take 71 1 ∷ Take 71 10 ∷ Stop 2 10 ∷ Take 71 22 ∷ [])
unfolding piece_of span decimal_from find closing quoted same
numbers = refl

-- the longest mark wins
longest : pieces (bytes "->" ∷ bytes "-->" ∷ bytes "!!=" ∷ bytes ":::" ∷ bytes "<<=" ∷ bytes "&" ∷ bytes "||" ∷ [])
    ≡ (Take 31 2 ∷ Take 34 2 ∷ Take 36 2 ∷ Take 30 2 ∷ Take 12 2 ∷ Take 5 1 ∷ Take 1 2 ∷ [])
unfolding piece_of span decimal_from find closing quoted same
longest = refl

comments : pieces (bytes "/**/x" ∷ bytes "/*/" ∷ bytes "/*/*/1" ∷ bytes "/* **/" ∷ bytes "//*" ∷ bytes "/*" ∷ [])
    ≡ (Skip 4 ∷ Stop 1 3 ∷ Skip 5 ∷ Skip 6 ∷ Take 17 1 ∷ Stop 1 2 ∷ [])
unfolding piece_of span decimal_from find closing quoted same
comments = refl

strings : pieces (bytes "\"a\"b" ∷ bytes "\"a\\q\"" ∷ bytes "\"a\\\"" ∷ bytes "\"a\\" ∷ bytes "\"\n\"" ∷ bytes "\"O'Neill\\n\"" ∷ [])
    ≡ (Take 72 3 ∷ Stop 1 4 ∷ Stop 1 4 ∷ Stop 1 3 ∷ Stop 1 2 ∷ Take 72 11 ∷ [])
unfolding piece_of span decimal_from find closing quoted same
strings = refl

-- bytes 127, 128 and 255 in a string; 64 and 65 bytes between quotes; too long and unclosed is unclosed
string_bytes : pieces ((34 ∷ 127 ∷ 34 ∷ []) ∷ (34 ∷ 128 ∷ 255 ∷ 34 ∷ []) ∷ (34 ∷ replicate 64 97 ++ 34 ∷ []) ∷ (34 ∷ replicate 65 97 ++ 34 ∷ []) ∷ (34 ∷ replicate 65 97) ∷ [])
    ≡ (Stop 1 2 ∷ Take 72 4 ∷ Take 72 66 ∷ Stop 2 67 ∷ Stop 1 66 ∷ [])
unfolding piece_of span decimal_from find closing quoted same
string_bytes = refl

strays : pieces (bytes "'" ∷ bytes "#a" ∷ bytes "\\" ∷ (0 ∷ []) ∷ (127 ∷ []) ∷ (128 ∷ []) ∷ (255 ∷ 32 ∷ []) ∷ (13 ∷ []) ∷ [])
    ≡ (Stop 1 1 ∷ Stop 1 1 ∷ Stop 1 1 ∷ Stop 1 1 ∷ Stop 1 1 ∷ Stop 1 1 ∷ Stop 1 1 ∷ Skip 1 ∷ [])
unfolding piece_of span decimal_from find closing quoted same
strays = refl
