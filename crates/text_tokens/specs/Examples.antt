-- Mechanism: worked examples, computed from its definitions; they are held to nothing else.
-- Readings of small texts, the sample sheet's P9 among them.
use Rattle.std.specs.Prelude.{◌≡◌, refl, [], ◌∷◌}
use Rattle.base_bytes.specs.Lists.{same}
use Rattle.base_kinds.specs.Kinds.{bytes}
use Rattle.spec_text.specs.Find.{find}
use Rattle.text_pieces.specs.Spans.{span, closing, quoted}
use Rattle.spec_text.specs.Digits.{decimal_from}
use Rattle.text_pieces.specs.Pieces.{piece_of}
use Rattle.text_tokens.specs.Reading.{tokens, refused, read_from, reading}
use Rattle.spec_text.specs.Placed.{placed}
use Rattle.text_tokens.specs.Lines.{behind, position, position_of}

-- P9
apostrophe : reading (bytes "init{'}") ≡ refused 1 5 1
unfolding read_from piece_of span decimal_from find closing quoted same
apostrophe = refl

nothing : reading [] ≡ tokens []
unfolding read_from piece_of span decimal_from find closing quoted same
nothing = refl

side_by_side : reading (bytes "a=1fi/*'*/;") ≡ tokens (placed 70 0 1 ∷ placed 32 1 1 ∷ placed 71 2 1 ∷ placed 53 3 2 ∷ placed 28 10 1 ∷ [])
unfolding read_from piece_of span decimal_from find closing quoted same
side_by_side = refl

-- the first refusal wins, and one at the end outranks what comes before only if that is none
first_wins : reading (bytes "a ' 99999999999") ≡ refused 1 2 1
unfolding read_from piece_of span decimal_from find closing quoted same
first_wins = refl

-- the token that passes the ceiling is refused at itself, unless it is no token
too_many : read_from 0 2 0 (bytes "a b ccc '") ≡ refused 2 4 3
unfolding read_from piece_of span decimal_from find closing quoted same
too_many = refl

no_token : read_from 0 2 0 (bytes "a b '") ≡ refused 1 4 1
unfolding read_from piece_of span decimal_from find closing quoted same
no_token = refl

lines : position_of (bytes "ab\nc\n\nd") 6 ≡ position 4 1
unfolding behind
lines = refl

columns : position_of (bytes "ab\nc\n\nd") 2 ≡ position 1 3
unfolding behind
columns = refl
