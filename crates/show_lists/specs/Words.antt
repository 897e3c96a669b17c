-- Program: held by stored output and by `tests/program` beyond what its contracts say.
-- THE WORDS OF A LINE of a list (`split`). They are parted by blanks and tabs, any number of them; a word that begins with a quote goes to the closing quote, and inside it a backslash stands before a quote or a backslash
-- and makes it one of the word. A quote inside a word and a backslash outside quotes are bytes like any other. What the code writes, the words with a line end behind each (`words_from`), and where it stands at the
-- end (`end_from`), are those of `split` (`words_split`, proofs/Split.antt).
use Rattle.std.specs.Prelude.{ℕ, ◌-◌, ◌≡◌, Bool, true, false, not, List, [], ◌∷◌, ◌++◌, length, get_or, take, eqb}
use Rattle.base_bytes.specs.Choice.{pick, either}
use Rattle.show_lists.specs.declared.words.Place.{Place}
use Rattle.show_lists.specs.declared.words.Place.TheVariants.{Apart, Plain, Quoted, Slashed, Closed, Stray, Crowded}

-- blank (32) or tab (9)
abbrev pub is_blank : ℕ → Bool
is_blank b = either (eqb b 32) (eqb b 9)

-- quote (34) or backslash (92)
abbrev pub is_slashed : ℕ → Bool
is_slashed b = either (eqb b 34) (eqb b 92)

-- ## the words of a line, or what is wrong with it
pub data Line : Type 0 where
  words : List (List ℕ) → Line
  -- a quote does not end
  unended : Line
  -- in quotes a backslash stands before something else
  stray : Line
  -- something stands right behind a closing quote
  crowded : Line

-- a word ends, and these are behind it
abbrev pub ended : Line → Line
ended (words ws) = words ([] ∷ ws)
ended unended = unended
ended stray = stray
ended crowded = crowded

-- one byte more at the front of the first word
abbrev pub longer : ℕ → Line → Line
longer b (words []) = words []
longer b (words (w ∷ ws)) = words ((b ∷ w) ∷ ws)
longer b unended = unended
longer b stray = stray
longer b crowded = crowded

-- what a line says from a place on: where it ends, and where byte b stands and `rest` says what the line says behind it
abbrev pub split_last : Place → Line
split_last Apart = words []
split_last Plain = words ([] ∷ [])
split_last Quoted = unended
split_last Slashed = unended
split_last Closed = words ([] ∷ [])
split_last Stray = stray
split_last Crowded = crowded

abbrev pub split_next : (Place → Line) → ℕ → Place → Line
split_next rest b Apart = pick (is_blank b) (rest Apart) (pick (eqb b 34) (rest Quoted) (longer b (rest Plain)))
split_next rest b Plain = pick (is_blank b) (ended (rest Apart)) (longer b (rest Plain))
split_next rest b Quoted = pick (eqb b 34) (rest Closed) (pick (eqb b 92) (rest Slashed) (longer b (rest Quoted)))
split_next rest b Slashed = pick (is_slashed b) (longer b (rest Quoted)) stray
split_next rest b Closed = pick (is_blank b) (ended (rest Apart)) crowded
split_next rest b Stray = stray
split_next rest b Crowded = crowded

unfoldable pub split : Place → List ℕ → Line
split x [] = split_last x
split x (b ∷ l) = split_next (λ y. split y l) b x

-- ## byte by byte
abbrev pub behind : Place → ℕ → Place
behind Apart b = pick (is_blank b) Apart (pick (eqb b 34) Quoted Plain)
behind Plain b = pick (is_blank b) Apart Plain
behind Quoted b = pick (eqb b 34) Closed (pick (eqb b 92) Slashed Quoted)
behind Slashed b = pick (is_slashed b) Quoted Stray
behind Closed b = pick (is_blank b) Apart Crowded
behind Stray b = Stray
behind Crowded b = Crowded

-- a word ends where byte b stands, or the line's end
abbrev pub ends_word : Place → ℕ → Bool
ends_word Apart b = false
ends_word Plain b = is_blank b
ends_word Quoted b = false
ends_word Slashed b = false
ends_word Closed b = is_blank b
ends_word Stray b = false
ends_word Crowded b = false

abbrev pub ends_last : Place → Bool
ends_last Apart = false
ends_last Plain = true
ends_last Quoted = false
ends_last Slashed = false
ends_last Closed = true
ends_last Stray = false
ends_last Crowded = false

-- byte b is one of a word
abbrev pub is_kept : Place → ℕ → Bool
is_kept Apart b = not (either (is_blank b) (eqb b 34))
is_kept Plain b = not (is_blank b)
is_kept Quoted b = not (is_slashed b)
is_kept Slashed b = is_slashed b
is_kept Closed b = false
is_kept Stray b = false
is_kept Crowded b = false

abbrev pub added : Place → ℕ → List ℕ
added x b = pick (is_kept x b) (b ∷ []) (pick (ends_word x b) (10 ∷ []) [])

abbrev pub added_last : Place → List ℕ
added_last x = pick (ends_last x) (10 ∷ []) []

unfoldable pub words_from : Place → List ℕ → List ℕ
words_from x [] = added_last x
words_from x (b ∷ l) = added x b ++ words_from (behind x b) l

unfoldable pub end_from : Place → List ℕ → Place
end_from x [] = x
end_from x (b ∷ l) = end_from (behind x b) l

-- ## what they say is what `split` says: the words with a line end behind each, or by the place at the line's end what is wrong
unfoldable pub joined : List (List ℕ) → List ℕ
joined [] = []
joined (w ∷ ws) = w ++ 10 ∷ joined ws

abbrev pub is_whole : Place → Bool
is_whole Apart = true
is_whole Plain = true
is_whole Quoted = false
is_whole Slashed = false
is_whole Closed = true
is_whole Stray = false
is_whole Crowded = false

abbrev pub is_open : Place → Bool
is_open Apart = false
is_open Plain = false
is_open Quoted = true
is_open Slashed = true
is_open Closed = false
is_open Stray = false
is_open Crowded = false

abbrev pub Says : Line → List ℕ → Place → Type 0
Says (words ws) out y = (out ≡ joined ws) × (is_whole y ≡ true)
Says unended out y = is_open y ≡ true
Says stray out y = y ≡ Stray
Says crowded out y = y ≡ Crowded

-- ## lines that are no commands, and line ends
-- nothing but blanks, or `#` (35) behind them
unfoldable pub is_passed : List ℕ → Bool
is_passed [] = true
is_passed (b ∷ l) = pick (is_blank b) (is_passed l) (eqb b 35)

-- without a carriage return (13) at its end
abbrev pub without_return : List ℕ → List ℕ
without_return l = pick (eqb (get_or l (length l - 1) 0) 13) (take (length l - 1) l) l
