-- Which texts rows 1 and 2 of "What is answered" refuse for their bytes and tokens, with which number and where: document 01, "The edition we read", Bytes; "Ceilings".
-- Said by the part of the text that is laid out as it should be, and what stands behind it; how a text is scanned is not known here.
use Rattle.std.specs.Prelude.{◌≡◌, true, false, List, [], ◌∷◌, ◌++◌, ℕ, suc, ◌+◌, ◌≤◌, ◌<◌, eqb, length}
use Rattle.base_kinds.specs.Kinds.{marks}
use Rattle.spec_text.specs.Find.{find}
use Rattle.spec_text.specs.Bytes.{is_blank, is_letter, is_digit, is_word, is_plain, is_escape, quote, backslash, slash, star}
use Rattle.base_ceilings.specs.Ceilings.{number_most, string_most, text_most, tokens_most, word_most}
use Rattle.spec_text.specs.Digits.{decimal}
use Rattle.spec_text.specs.Spelled.{all, Between, Spelled, Longest}
use Rattle.spec_text.specs.Layout.{Unended, Gap}

-- the text s behind n laid-out tokens begins at place j; the text with these tokens, at place i. Behind the last token a gap may stand
pub data Begins : ℕ → ℕ → List ℕ → ℕ → List ℕ → Type 0 where
  gap : {i : ℕ} {g s : List ℕ} → Gap g → Begins 0 i (g ++ s) (i + length g) s
  token : {n i j k : ℕ} {g x r s : List ℕ} → Gap g → Spelled k x → Longest x r → Begins n (i + length g + length x) r j s → Begins (suc n) i (g ++ (x ++ r)) j s

-- what stands at the front of s can be no token and no gap: the refusal's number, and how many bytes of s its part has
pub data Wrong : List ℕ → ℕ → ℕ → Type 0 where
  -- "stray byte": no blank, of no word or number, no quote, and no mark. (Each mark of two bytes begins with one of one byte.)
  stray : (b : ℕ) (s : List ℕ) → is_blank b ≡ false → is_word b ≡ false → eqb b quote ≡ false → find (b ∷ []) marks 1 ≡ 0 → Wrong (b ∷ s) 1 1
  -- "bad byte in a string": "part from its start through the bad byte"
  bad_byte : {x : List ℕ} (b : ℕ) (s : List ℕ) → Between x → is_plain b ≡ false → Wrong (quote ∷ x ++ b ∷ s) 1 (length x + 2)
  bad_escape : {x : List ℕ} (b : ℕ) (s : List ℕ) → Between x → is_escape b ≡ false → Wrong (quote ∷ x ++ backslash ∷ b ∷ s) 1 (length x + 3)
  -- "unclosed string or comment": "to the end of text if unclosed"
  unclosed_string : {x : List ℕ} → Between x → Wrong (quote ∷ x) 1 (length x + 1)
  unclosed_escape : {x : List ℕ} → Between x → Wrong (quote ∷ x ++ backslash ∷ []) 1 (length x + 2)
  unclosed_comment : (c : List ℕ) → Unended c → Wrong (slash ∷ star ∷ c) 1 (length c + 2)
  -- "word, string, number .. ceiling passed": the whole of it, where that is a token but for its ceiling
  long_word : (b : ℕ) (x s : List ℕ) → is_letter b ≡ true → all is_word x ≡ true → Longest (b ∷ x) s → word_most < length (b ∷ x) → Wrong (b ∷ x ++ s) 2 (length (b ∷ x))
  large_number : (b : ℕ) (x s : List ℕ) → is_digit b ≡ true → all is_digit x ≡ true → Longest (b ∷ x) s → number_most < decimal (b ∷ x) → Wrong (b ∷ x ++ s) 2 (length (b ∷ x))
  long_string : {x : List ℕ} (s : List ℕ) → Between x → string_most < length x → Wrong (quote ∷ x ++ quote ∷ s) 2 (length x + 2)

-- the text from place i on, where `most` tokens may come, is broken: the refusal's number, the place of its part and how many bytes that has
pub data Breaks (most i : ℕ) (t : List ℕ) : ℕ → ℕ → ℕ → Type 0 where
  wrong : {c x j n : ℕ} {s : List ℕ} → Begins c i t j s → c ≤ most → Wrong s x n → Breaks most i t x j n
  -- the token that passes the ceiling, at itself
  too_many : {j k : ℕ} {x : List ℕ} (s : List ℕ) → Begins most i t j (x ++ s) → Spelled k x → Longest x s → Breaks most i t 2 j (length x)

-- the whole text is refused so: "then length, then bytes and tokens (1, 2)"
pub data Spoils (t : List ℕ) : ℕ → ℕ → ℕ → Type 0 where
  -- "0 for the length of text"
  too_long : text_most < length t → Spoils t 2 0 0
  broken : {x i n : ℕ} → length t ≤ text_most → Breaks tokens_most 0 t x i n → Spoils t x i n
