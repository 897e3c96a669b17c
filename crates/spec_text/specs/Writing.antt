-- Tokens as they are written in normal text: document 01, "Normal text": "leading zeros" are gone, and there is
-- "one space exactly where two tokens side by side would read otherwise".
use Rattle.std.specs.Prelude.{Bool, List, [], ◌∷◌, ◌++◌, map, ℕ, ◌-◌, eqb, length, get_or, take, drop}
use Rattle.base_bytes.specs.Choice.{pick}
use Rattle.spec_text.specs.Formats.{digits_of}
use Rattle.base_kinds.specs.Kinds.{marks, keywords, Token, sym, name, number, text, kind_of, name_kind, number_kind, string_kind}
use Rattle.spec_text.specs.Bytes.{quote}
use Rattle.spec_text.specs.Digits.{decimal}
use Rattle.spec_text.specs.Placed.{Placed}
use Rattle.spec_text.specs.Spelled.{joins}

-- the bytes of a token
abbrev pub spell : Token → List ℕ
spell (sym k) = get_or (marks ++ keywords) (k - 1) []
spell (name w) = w
spell (number n) = digits_of n
spell (text w) = quote ∷ w ++ quote ∷ []

-- the token that bytes of a kind are
abbrev pub token_of : ℕ → List ℕ → Token
token_of k x =
    pick (eqb k name_kind) (name x) (pick (eqb k number_kind) (number (decimal x)) (pick (eqb k string_kind) (text (take (length x - 2) (drop 1 x))) (sym k)))

-- the tokens of a text, with what they hold
abbrev pub part_of : List ℕ → Placed → List ℕ
part_of t p = take (p.end - p.start) (drop p.start t)

abbrev pub token_in : List ℕ → Placed → Token
token_in t p = token_of p.kind (part_of t p)

abbrev pub tokens_in : List ℕ → List Placed → List Token
tokens_in t ps = map (token_in t) ps

-- two tokens side by side would read otherwise
abbrev pub apart : Token → Token → Bool
apart a b = joins (kind_of a) (spell a) (get_or (spell b) 0 0)

-- behind the token a, the others with one space exactly where it is needed
unfoldable pub write_behind : Token → List Token → List ℕ
write_behind a [] = []
write_behind a (b ∷ ts) = pick (apart a b) (32 ∷ []) [] ++ (spell b ++ write_behind b ts)

abbrev pub write : List Token → List ℕ
write [] = []
write (a ∷ ts) = spell a ++ write_behind a ts
