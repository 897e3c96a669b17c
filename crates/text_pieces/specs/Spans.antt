-- Mechanism, held to the specification by `reading_exact` (crate `text_spacing_proof`) and `reading_spoils` (crate `text_spoils_proof`), but for `in_run`, of contracts alone.
-- How far a word, a number, a string or a comment reaches: document 01, "The edition we read", Bytes.
use Rattle.std.specs.Prelude.{Option, Some, None, Bool, true, false, List, [], ◌∷◌, ℕ, suc, ◌+◌, eqb}
use Rattle.base_bytes.specs.Choice.{pick, both, either}
use Rattle.spec_text.specs.Bytes.{is_digit, is_letter, is_plain, is_escape, quote, backslash, slash, star}
use Rattle.text_pieces.specs.declared.Quoted.{Quoted}
use Rattle.text_pieces.specs.declared.Quoted.TheVariants.{Closed, Spoiled, Unclosed}
use Rattle.text_pieces.specs.declared.Move.{Move}
use Rattle.text_pieces.specs.declared.Move.TheVariants.{On, End, Bad}

-- a byte of a number, or where letters count too of a word
abbrev pub in_run : Bool → ℕ → Bool
in_run letters b = either (is_digit b) (both letters (is_letter b))

-- how many bytes at the front pass a test
unfoldable pub span : (ℕ → Bool) → List ℕ → ℕ
span p [] = 0
span p (b ∷ s) = pick (p b) (suc (span p s)) 0

-- "Comments run from `/*` to the next `*/` and hold any bytes": how many bytes through the next `*/`; `starred` if the byte before is a star
abbrev pub one_more : Option ℕ → Option ℕ
one_more (Some n) = Some (n + 1)
one_more None = None

unfoldable pub closing : Bool → List ℕ → Option ℕ
closing starred [] = None
closing starred (b ∷ s) = pick (both starred (eqb b slash)) (Some 1) (one_more (closing (eqb b star) s))

-- what a byte of a string does; `escaped` if a backslash before it wants it
abbrev pub move_of : Bool → ℕ → Move
move_of true b = pick (is_escape b) (On false) Bad
move_of false b = pick (eqb b quote) End (pick (eqb b backslash) (On true) (pick (is_plain b) (On false) Bad))

abbrev pub further : Quoted → Quoted
further (Closed n) = Closed (n + 1)
further (Spoiled n) = Spoiled (n + 1)
further Unclosed = Unclosed

abbrev pub moved : Move → (Bool → Quoted) → Quoted
moved (On escaped) rest = further (rest escaped)
moved End rest = Closed 1
moved Bad rest = Spoiled 1

-- how many bytes of a string from here through its closing quote, or through its bad byte
unfoldable pub quoted : Bool → List ℕ → Quoted
quoted escaped [] = Unclosed
quoted escaped (b ∷ s) = moved (move_of escaped b) (λ e. quoted e s)
