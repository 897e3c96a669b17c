-- Looking a spelling up in the tables of marks and keywords: document 01, "Keywords .. Each is compared byte for byte with the fixed spelling".
use Rattle.std.specs.Prelude.{List, [], ◌∷◌, ℕ, ◌+◌, eqb}
use Rattle.base_bytes.specs.Choice.{pick}
use Rattle.base_bytes.specs.Lists.{same}
use Rattle.base_kinds.specs.Kinds.{keywords, name_kind}

-- the place of a spelling in a table that counts from k; 0 where it is not there
unfoldable pub find : List ℕ → List (List ℕ) → ℕ → ℕ
find w [] k = 0
find w (x ∷ xs) k = pick (same w x) k (find w xs (k + 1))

abbrev pub or_else : ℕ → ℕ → ℕ
or_else k other = pick (eqb k 0) other k

-- the kind of a keyword, 0 for any other word
abbrev pub keyword_of : List ℕ → ℕ
keyword_of w = find w keywords 38

-- the kind of a word
abbrev pub word_kind : List ℕ → ℕ
word_kind w = or_else (keyword_of w) name_kind
