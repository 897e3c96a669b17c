-- Tokens of a text are within the ceilings, and bring no more bytes than it has.
use mathlib.Core.Path.{◌≡◌, refl, sym as inv, ◌∙◌, ap}
use mathlib.Core.Bool.{true}
use mathlib.Core.Logic.{◌⊎◌, inl, inr}
use mathlib.Core.List.{List, [], ◌∷◌, ◌++◌}
use Prim.Native.Nat.{ℕ, ◌≤◌, ◌<◌}
use native.Mathlib.Omega.{arith}
use lib.Dec.{eqb, leb}
use lib.ListN.{length, take, length-append}
use lib.Seq.{take_at}
use borrow.Author.Tests.{leb-true, eqb-true}
use Rattle.base_ceilings.specs.Ceilings.{string_most}
use Rattle.base_bytes.specs.Choice.{pick, either}
use Rattle.base_bytes.proofs.Tests.{both_true, either_true}
use Rattle.base_kinds.specs.Kinds.{Token, sym, name, number, text}
use Rattle.spec_text.specs.Bytes.{within, is_letter, is_digit, is_word, is_plain, is_escape, quote}
use Rattle.spec_text.specs.Spelled.{Spelled, word, digits, string, mark, Between, empty, plain, escape, all}
use Rattle.spec_text.specs.Writing.{spell, apart, write_behind, write}
use Rattle.text_spacing_proof.specs.Sound.{Sound, AllSound}
use Rattle.text_spacing_proof.proofs.Tables.{mark_range, word_range}
use Rattle.base_pens.specs.Pack.{Bytes}
use Rattle.table_proof.specs.Marks.{brings, brought}
use Rattle.table_proof.proofs.Drawn.{Held, AllHeld}
use Rattle.base_codes.specs.Codes.{c_name, c_text}

within_low : (lo hi b : ℕ) → within lo hi b ≡ true → b ≤ hi
within_low lo hi b e = leb-true b hi (both_true (leb lo b) (leb b hi) e).1

letter_low : (b : ℕ) → is_letter b ≡ true → b < 256
letter_low b e = go (either_true (within 65 90 b) (either (within 97 122 b) (eqb b 95)) e)
  where
    last : (within 97 122 b ≡ true) ⊎ (eqb b 95 ≡ true) → b < 256
    last (inl h) = omega (arith, within_low 97 122 b h)
    last (inr h) = omega (arith, eqb-true b 95 h)

    go : (within 65 90 b ≡ true) ⊎ (either (within 97 122 b) (eqb b 95) ≡ true) → b < 256
    go (inl h) = omega (arith, within_low 65 90 b h)
    go (inr h) = last (either_true (within 97 122 b) (eqb b 95) h)

word_low : (b : ℕ) → is_word b ≡ true → b < 256
word_low b e = go (either_true (is_digit b) (is_letter b) e)
  where
    go : (is_digit b ≡ true) ⊎ (is_letter b ≡ true) → b < 256
    go (inl h) = omega (arith, within_low 48 57 b h)
    go (inr h) = letter_low b h

plain_low : (b : ℕ) → is_plain b ≡ true → b < 256
plain_low b e = go (either_true (within 32 126 b) (within 128 255 b) e)
  where
    go : (within 32 126 b ≡ true) ⊎ (within 128 255 b ≡ true) → b < 256
    go (inl h) = omega (arith, within_low 32 126 b h)
    go (inr h) = omega (arith, within_low 128 255 b h)

escape_low : (b : ℕ) → is_escape b ≡ true → b < 256
escape_low b e = go (either_true (eqb b 110) (either (eqb b 116) (either (eqb b 34) (eqb b 92))) e)
  where
    last : (eqb b 34 ≡ true) ⊎ (eqb b 92 ≡ true) → b < 256
    last (inl h) = omega (arith, eqb-true b 34 h)
    last (inr h) = omega (arith, eqb-true b 92 h)

    next : (eqb b 116 ≡ true) ⊎ (either (eqb b 34) (eqb b 92) ≡ true) → b < 256
    next (inl h) = omega (arith, eqb-true b 116 h)
    next (inr h) = last (either_true (eqb b 34) (eqb b 92) h)

    go : (eqb b 110 ≡ true) ⊎ (either (eqb b 116) (either (eqb b 34) (eqb b 92)) ≡ true) → b < 256
    go (inl h) = omega (arith, eqb-true b 110 h)
    go (inr h) = next (either_true (eqb b 116) (either (eqb b 34) (eqb b 92)) h)

words_low : (s : List ℕ) → all is_word s ≡ true → Bytes s
unfolding all
words_low [] e = tt
words_low (b ∷ s) e = let p = both_true (is_word b) (all is_word s) e in (word_low b p.0, words_low s p.1)

between_low : {s : List ℕ} → Between s → Bytes s
between_low empty = tt
between_low (plain {b = b} p q r x) = (plain_low b p, between_low x)
between_low (escape {b = b} p x) = (omega arith, (escape_low b p, between_low x))

name-held : {k : ℕ} {x : List ℕ} → Spelled k x → k ≡ c_name → (length x ≤ string_most) × Bytes x
name-held (word {b = b} {s = s} l a n) h = (omega (arith, n), (letter_low b l, words_low s a))
name-held (digits p q r) h = absurd (omega arith)
name-held (string p q) h = absurd (omega arith)
name-held (mark {k = k} {x = x} e) h = absurd (omega (arith, mark_range x k e))

pub unquoted : (s w : List ℕ) → quote ∷ (s ++ quote ∷ []) ≡ quote ∷ (w ++ quote ∷ []) → s ≡ w
unquoted s w e =
    let f : s ++ quote ∷ [] ≡ w ++ quote ∷ [] = cc in
    let n : length s ≡ length w = omega (arith, ap length f, length-append s (quote ∷ []), length-append w (quote ∷ [])) in
    inv (take_at s (quote ∷ []) (length s) refl) ∙ ap (take (length s)) f ∙ take_at w (quote ∷ []) (length s) (inv n)

text-held : (w : List ℕ) {k : ℕ} {x : List ℕ} → Spelled k x → k ≡ c_text → x ≡ quote ∷ (w ++ quote ∷ []) → (length w ≤ string_most) × Bytes w
text-held w (word {b = b} {s = s} l a n) h e = absurd (omega (arith, (word_range (b ∷ s)).1))
text-held w (digits p q r) h e = absurd (omega arith)
text-held w (string {s = s} p q) h e = let u : s ≡ w = unquoted s w e in rw (← u) (q, between_low p)
text-held w (mark {k = k} {x = x} f) h e = absurd (omega (arith, mark_range x k f))

pub sound-held : (c : Token) → Sound c → Held c
sound-held (sym k) s = tt
sound-held (name w) s = name-held s refl
sound-held (number n) s = tt
sound-held (text w) s = text-held w s refl refl

pub all_held : (ts : List Token) → AllSound ts → AllHeld ts
all_held [] s = tt
all_held (c ∷ ts) s = (sound-held c s.0, all_held ts s.1)

brings_most : (c : Token) → brings c ≤ length (spell c)
brings_most (sym k) = omega arith
brings_most (name w) = omega arith
brings_most (number n) = omega arith
brings_most (text w) = omega (arith, length-append w (quote ∷ []))

behind_most : (a : Token) (ts : List Token) → brought ts ≤ length (write_behind a ts)
unfolding write_behind
behind_most a [] = omega arith
behind_most a (b ∷ ts) =
    omega (arith, length-append (pick (apart a b) (32 ∷ []) []) (spell b ++ write_behind b ts), length-append (spell b) (write_behind b ts), brings_most b, behind_most b ts)

pub brought_most : (ts : List Token) → brought ts ≤ length (write ts)
brought_most [] = omega arith
brought_most (a ∷ ts) = omega (arith, length-append (spell a) (write_behind a ts), brings_most a, behind_most a ts)
