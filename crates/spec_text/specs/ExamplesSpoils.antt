-- Document 01, rows 1 and 2 of "What is answered", bytes and tokens: worked examples, each a small text with the number, the place and the length of its refusal.
-- "part from its start through the bad byte, or to the end of text if unclosed", "token", "0 for the length of text".
use Rattle.std.specs.Prelude.{◌≡◌, refl, Bool, true, false, List, [], ◌∷◌, ◌++◌, ℕ, zero, suc, ◌+◌, ◌<◌, ◌≤◌, eqb, length, replicate}
use Rattle.std.proofs.Common.{sym, ap, ◌∙◌, arith, length-append}
use Rattle.std.proofs.lemmas.List.{length-replicate}
use Rattle.base_ceilings.specs.Ceilings.{text_most}
use Rattle.base_bytes.specs.Choice.{both}
use Rattle.base_bytes.specs.Lists.{same}
use Rattle.base_bytes.proofs.Tests.{true_false, both_true}
use Rattle.base_kinds.specs.Kinds.{bytes, marks}
use Rattle.spec_text.specs.Find.{find}
use Rattle.spec_text.specs.Bytes.{is_letter, is_digit, is_word, quote, slash, star}
use Rattle.spec_text.specs.Digits.{decimal_from}
use Rattle.spec_text.specs.Spelled.{all, Between, empty, plain, word, mark, Formed, a_word, a_number, a_string, a_mark, an_opening, Longest}
use Rattle.spec_text.specs.Layout.{Unended, none, blank}
use Rattle.spec_text.specs.Spoils.{gap, token, Wrong, stray, bad_byte, bad_escape, unclosed_string, unclosed_escape, unclosed_comment, long_word, large_number, long_string, Breaks, wrong}
use Rattle.spec_text.specs.Spoils.{too_many, Spoils, too_long, broken}

-- ## "The longest token wins": at the end of the text, and where the byte c stands behind a word or a mark that begins with b
pub at_end : (x : List ℕ) → Longest x []
at_end x [] z e h f = omega arith
at_end x (a ∷ y) z e h f = omega (arith, ap length e)

all_at : (p : ℕ → Bool) (s : List ℕ) (c : ℕ) (y : List ℕ) → all p (s ++ c ∷ y) ≡ true → p c ≡ true
unfolding all
all_at p [] c y a = (both_true (p c) (all p y) a).0
all_at p (b ∷ s) c y a = all_at p s c y (both_true (p b) (all p (s ++ c ∷ y)) a).1

module _ (b c : ℕ) (w s : List ℕ) (joins : both (is_letter b) (is_word c) ≡ false) (number : is_digit b ≡ false) (string : eqb b quote ≡ false) (opens : eqb b slash ≡ false)
    (longer : (y : List ℕ) → find (b ∷ (w ++ c ∷ y)) marks 1 ≡ 0) where
  no_form : (y t : List ℕ) → Formed t → t ≡ b ∷ (w ++ c ∷ y) → ⊥
  no_form y _ (a_word {b = d} {s = r} l a) e =
      let p : d ≡ b = cc in
      let q : r ≡ w ++ c ∷ y = cc in
      true_false (sym (rw (← p, l, all_at is_word w c y (rw q at a)) refl) ∙ joins)
  no_form y _ (a_number {b = d} i a) e = let p : d ≡ b = cc in true_false (sym i ∙ rw p number)
  no_form y _ (a_string i) e = let p : quote ≡ b = cc in true_false (rw (← p) at string)
  no_form y t (a_mark {k = k} i) e =
      let p : find (b ∷ (w ++ c ∷ y)) marks 1 ≡ suc k = rw e at i in
      omega (arith, p, longer y)
  no_form y _ an_opening e = let p : slash ≡ b = cc in true_false (rw (← p) at opens)

  pub before : Longest (b ∷ w) (c ∷ s)
  before [] z e h f = omega arith
  before (d ∷ y) z e h f = let p : c ≡ d = cc in no_form y (b ∷ (w ++ d ∷ y)) f (rw p refl)

-- `init` before `{`, `{` before `'`, `a` before a blank
init_ends : Longest (bytes "init") (bytes "{'}")
unfolding find same
init_ends = before 105 123 (bytes "nit") (bytes "'}") refl refl refl refl (λ y. refl)

brace_ends : Longest (bytes "{") (bytes "'}")
unfolding find same
brace_ends = before 123 39 [] (bytes "}") refl refl refl refl (λ y. refl)

a_ends : (s : List ℕ) → Longest (bytes "a") (32 ∷ s)
unfolding find same
a_ends s = before 97 32 [] s refl refl refl refl (λ y. refl)

-- ## "stray byte" (1): `init{'}`, sample P9
pub stray_byte : Spoils (bytes "init{'}") 1 5 1
unfolding all find same
stray_byte =
    broken (omega arith) (wrong (token none (word {b = 105} {s = bytes "nit"} refl refl (omega arith)) init_ends (token {x = bytes "{"} none (mark {k = 24} refl) brace_ends (gap none)))
    (omega arith) (stray 39 (bytes "}") refl refl refl refl))

-- what is wrong where a text begins
at_start : {t : List ℕ} {x n : ℕ} → length t ≤ text_most → Wrong t x n → Spoils t x 0 n
at_start h r = broken h (wrong (gap none) (omega arith) r)

-- ## "bad byte in a string" (1): `"a`, a line end and `"`; `"a\q"`
bad_byte_3 : Spoils (bytes "\"a\n\"") 1 0 3
bad_byte_3 = at_start (omega arith) (bad_byte {x = bytes "a"} 10 (bytes "\"") (plain refl refl refl empty) refl)

bad_escape_4 : Spoils (bytes "\"a\\q\"") 1 0 4
bad_escape_4 = at_start (omega arith) (bad_escape {x = bytes "a"} 113 (bytes "\"") (plain refl refl refl empty) refl)

-- ## "unclosed string or comment" (1), to the end of the text: `"a`, `"a\`
unclosed_2 : Spoils (bytes "\"a") 1 0 2
unclosed_2 = at_start (omega arith) (unclosed_string (plain refl refl refl empty))

unclosed-backslash : Spoils (bytes "\"a\\") 1 0 3
unclosed-backslash = at_start (omega arith) (unclosed_escape {x = bytes "a"} (plain refl refl refl empty))

-- fewer than two bytes do not end a comment
short : (c : List ℕ) → length c < 2 → Unended c
short c h x y e = omega (arith, h, ap length e, length-append x (star ∷ slash ∷ y))

-- ` /*` behind a blank, `/*/`
unclosed_comment_2 : Spoils (bytes " /*") 1 1 2
unclosed_comment_2 = broken (omega arith) (wrong (gap (blank {b = 32} refl none)) (omega arith) (unclosed_comment [] (short [] (omega arith))))

opening_star : Spoils (bytes "/*/") 1 0 3
opening_star = at_start (omega arith) (unclosed_comment (bytes "/") (short (bytes "/") (omega arith)))

-- `/*a*`
unclosed_comment_4 : Spoils (bytes "/*a*") 1 0 4
unclosed_comment_4 = at_start (omega arith) (unclosed_comment (bytes "a*") unended)
  where
    unended : Unended (bytes "a*")
    unended [] y e = let p : 97 ≡ star = cc in omega arith
    unended (d ∷ x) y e = omega (arith, ap length e, length-append x (star ∷ slash ∷ y))

-- ## "word .. ceiling passed" (2): 33 letters; "number": 2147483648
word_33 : Spoils (replicate 33 97) 2 0 33
unfolding all
word_33 = at_start (omega arith) (long_word 97 (replicate 32 97) [] refl refl (at_end (replicate 33 97)) (omega arith))

number_2147483648 : Spoils (bytes "2147483648") 2 0 10
unfolding all decimal_from
number_2147483648 = at_start (omega arith) (large_number 50 (bytes "147483648") [] refl refl (at_end (bytes "2147483648")) (omega arith))

-- "string": 65 bytes between quotes, and unclosed all the same 1
letters : (n : ℕ) → Between (replicate n 97)
letters zero = empty
letters (suc n) = plain refl refl refl (letters n)

string_65 : Spoils (quote ∷ replicate 65 97 ++ quote ∷ []) 2 0 67
string_65 = at_start (omega arith) (long_string [] (letters 65) (omega arith))

unclosed_65 : Spoils (quote ∷ replicate 65 97) 1 0 66
unclosed_65 = at_start (omega arith) (unclosed_string (letters 65))

-- ## "0 for the length of text": 65,537 blanks
text_65537 : Spoils (replicate 65537 32) 2 0 0
text_65537 = too_long (omega (arith, length-replicate {A = ℕ} 65537 32))

-- ## "token .. ceiling passed", where one token may come: 2 at the second, and 1 where what stands there is none
second_token : Breaks 1 0 (bytes "a b") 2 2 1
unfolding all
second_token =
    too_many {x = bytes "b"} [] (token none (word {b = 97} {s = []} refl refl (omega arith)) (a_ends (bytes "b")) (gap (blank {b = 32} refl none)))
    (word {b = 98} {s = []} refl refl (omega arith)) (at_end (bytes "b"))

second_stray : Breaks 1 0 (bytes "a '") 1 2 1
unfolding all find same
second_stray = wrong (token none (word {b = 97} {s = []} refl refl (omega arith)) (a_ends (bytes "'")) (gap (blank {b = 32} refl none))) (omega arith) (stray 39 [] refl refl refl refl)
