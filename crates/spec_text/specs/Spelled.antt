-- What the bytes of a token are, kind by kind, and when a byte behind them would belong to them: document 01, "The edition we read", Bytes; "Ceilings".
use Rattle.std.specs.Prelude.{◌≡◌, Bool, true, false, List, [], ◌∷◌, ◌++◌, ℕ, suc, ◌≤◌, ◌<◌, eqb, ltb, length}
use Rattle.base_ceilings.specs.Ceilings.{number_most, string_most, word_most}
use Rattle.base_bytes.specs.Choice.{pick, both, either}
use Rattle.base_bytes.specs.Lists.{same}
use Rattle.base_kinds.specs.Kinds.{marks, number_kind, string_kind}
use Rattle.spec_text.specs.Find.{find, word_kind}
use Rattle.spec_text.specs.Bytes.{is_letter, is_digit, is_word, is_plain, is_escape, quote, backslash, slash, star}
use Rattle.spec_text.specs.Digits.{decimal}

unfoldable pub all : (ℕ → Bool) → List ℕ → Bool
all p [] = true
all p (b ∷ s) = both (p b) (all p s)

-- "Strings .. of bytes 32 to 126 and 128 to 255; a backslash must be followed by `n`, `t`, `"` or a backslash": the bytes between the quotes
pub data Between : List ℕ → Type 0 where
  empty : Between []
  plain : {b : ℕ} {s : List ℕ} → is_plain b ≡ true → eqb b quote ≡ false → eqb b backslash ≡ false → Between s → Between (b ∷ s)
  escape : {b : ℕ} {s : List ℕ} → is_escape b ≡ true → Between s → Between (backslash ∷ b ∷ s)

-- the bytes x are a token of kind k, within the ceilings
pub data Spelled : ℕ → List ℕ → Type 0 where
  word : {b : ℕ} {s : List ℕ} → is_letter b ≡ true → all is_word s ≡ true → length (b ∷ s) ≤ word_most → Spelled (word_kind (b ∷ s)) (b ∷ s)
  digits : {b : ℕ} {s : List ℕ} → is_digit b ≡ true → all is_digit s ≡ true → decimal (b ∷ s) ≤ number_most → Spelled number_kind (b ∷ s)
  string : {s : List ℕ} → Between s → length s ≤ string_most → Spelled string_kind (quote ∷ s ++ quote ∷ [])
  mark : {k : ℕ} {x : List ℕ} → find x marks 1 ≡ suc k → Spelled (suc k) x

-- what has the form of a token, whatever its length; a comment's opening is told apart like one
pub data Formed : List ℕ → Type 0 where
  a_word : {b : ℕ} {s : List ℕ} → is_letter b ≡ true → all is_word s ≡ true → Formed (b ∷ s)
  a_number : {b : ℕ} {s : List ℕ} → is_digit b ≡ true → all is_digit s ≡ true → Formed (b ∷ s)
  a_string : {s : List ℕ} → Between s → Formed (quote ∷ s ++ quote ∷ [])
  a_mark : {k : ℕ} {x : List ℕ} → find x marks 1 ≡ suc k → Formed x
  an_opening : Formed (slash ∷ star ∷ [])

-- "The longest token wins": no longer beginning of x and the bytes s behind it has the form of a token
abbrev pub Longest : List ℕ → List ℕ → Type 0
Longest x s = (y z : List ℕ) → s ≡ y ++ z → 0 < length y → Formed (x ++ y) → ⊥

-- the same as a test of the next byte c, which normal text goes by (`joins_longest`, crate `text_spacing_proof`). A mark and a byte behind it are another mark, or open a comment
abbrev pub mark_joins : List ℕ → ℕ → Bool
mark_joins x c = either (ltb 0 (find (x ++ c ∷ []) marks 1)) (both (same x (slash ∷ [])) (eqb c star))

-- the byte c, at once behind the token x of kind k, would make it read otherwise. 0 stands for the end of the text
abbrev pub joins : ℕ → List ℕ → ℕ → Bool
joins k x c = pick (ltb k 38) (mark_joins x c) (pick (ltb k number_kind) (is_word c) (both (eqb k number_kind) (is_digit c)))
