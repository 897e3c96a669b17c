-- A piece has at least one byte, and no more than the text.
use mathlib.Core.Path.{◌≡◌, refl}
use mathlib.Core.Bool.{Bool, true, false, not}
use mathlib.Core.List.{List, [], ◌∷◌}
use Prim.Native.Nat.{ℕ, zero, suc, ◌+◌, ◌≤◌, ◌<◌}
use native.Mathlib.Omega.{arith}
use borrow.Author.Tests.{eqb-true, eqb-false, not-true}
use lib.Dec.{eqb, ltb}
use lib.ListN.{length, get_or, take, drop}
use Rattle.base_ceilings.specs.Ceilings.{number_most, string_most, word_most}
use Rattle.base_bytes.specs.Choice.{pick, both}
use Rattle.base_bytes.specs.Lists.{same}
use Rattle.base_bytes.proofs.Tests.{both_true, both_no, right-holds}
use Rattle.base_kinds.specs.Kinds.{marks}
use Rattle.spec_text.specs.Find.{find}
use Rattle.spec_text.specs.Bytes.{is_blank, is_letter, is_digit, is_word, quote, slash, star}
use Rattle.text_pieces.specs.Spans.{span, closing, quoted}
use Rattle.spec_text.specs.Digits.{decimal}
use Rattle.text_pieces.specs.Pieces.{word_of, number_of, string_of, comment_of, mark_of, piece_of}
use Rattle.text_pieces.specs.declared.Piece.{Piece}
use Rattle.text_pieces.specs.declared.Piece.TheVariants.{Skip, Take, Stop}
use Rattle.std.specs.Prelude.{Option, Some, None}
use Rattle.text_pieces.specs.declared.Quoted.{Quoted}
use Rattle.text_pieces.specs.declared.Quoted.TheVariants.{Closed, Spoiled, Unclosed}
use Rattle.text_pieces.proofs.Laws.{span_le, closed-within, string_within, spoiled_within}

abbrev pub size : Piece → ℕ
size (Skip n) = n
size (Take k n) = n
size (Stop x n) = n

-- of a text of m bytes
abbrev pub Sized : ℕ → Piece → Type 0
Sized m p = (0 < size p) × (size p ≤ m)

-- what holds of both choices, each where its test says, holds of the choice
pub by_test : {A : Type 0} (P : A → Type 0) (t : Bool) {x y : A} → (t ≡ true → P x) → (t ≡ false → P y) → P (pick t x y)
by_test P true f g = f refl
by_test P false f g = g refl

word-sized : (s : List ℕ) (n m : ℕ) → 0 < n → n ≤ m → Sized m (word_of s n)
word-sized s n m h k = by_test (Sized m) (ltb word_most n) (λ e. (h, k)) (λ e. (h, k))

number-sized : (s : List ℕ) (n m : ℕ) → 0 < n → n ≤ m → Sized m (number_of s n)
number-sized s n m h k = by_test (Sized m) (ltb number_most (decimal (take n s))) (λ e. (h, k)) (λ e. (h, k))

-- a run whose first byte passes has a byte
span-some : (p : ℕ → Bool) (b : ℕ) (s : List ℕ) → p b ≡ true → 0 < span p (b ∷ s)
unfolding span
span-some p b s e = rw e (omega arith)

string_sized : (s : List ℕ) (x : Quoted) → x ≡ quoted false s → Sized (suc (length s)) (string_of x (length s))
string_sized s (Closed n) e =
    let h = string_within (Closed n) s n e refl in
    by_test (Sized (suc (length s))) (ltb (string_most + 1) n) (λ _. (omega arith, omega arith)) (λ _. (omega arith, omega arith))
string_sized s (Spoiled n) e = let h = spoiled_within (Spoiled n) s n e refl in (omega arith, omega arith)
string_sized s Unclosed e = (omega arith, omega arith)

comment_sized : (s : List ℕ) (x : Option ℕ) → get_or s 0 0 ≡ star → x ≡ closing false (drop 1 s) → Sized (suc (length s)) (comment_of x (length (drop 1 s)))
comment_sized [] x h e = absurd (omega arith)
comment_sized (b ∷ s) (Some n) h e = let k = closed-within (Some n) s n e refl in (omega arith, omega arith)
comment_sized (b ∷ s) None h e = (omega arith, omega arith)

-- no mark has the byte 0, which stands for the end of the text
abbrev whole : List ℕ → Bool
whole [] = true
whole (a ∷ []) = true
whole (a ∷ c ∷ []) = not (eqb c 0)
whole (a ∷ c ∷ d ∷ x) = true

abbrev all_whole : List (List ℕ) → Bool
all_whole [] = true
all_whole (x ∷ xs) = both (whole x) (all_whole xs)

not-zero : (c : ℕ) → not (eqb c 0) ≡ true → eqb 0 c ≡ false
not-zero zero e = absurd (eqb-false 0 0 (not-true (eqb 0 0) e) refl)
not-zero (suc c) e = lib.Dec.eqb-zero-suc c

same-zero : (b : ℕ) (x : List ℕ) → whole x ≡ true → same (b ∷ 0 ∷ []) x ≡ false
unfolding same
same-zero b [] e = refl
same-zero b (a ∷ []) e = both_no (eqb b a) refl
same-zero b (a ∷ c ∷ []) e = rw (not-zero c e) (both_no (eqb b a) refl)
same-zero b (a ∷ c ∷ d ∷ x) e = both_no (eqb b a) (both_no (eqb 0 c) refl)

pub find-zero : (b : ℕ) (xs : List (List ℕ)) (k : ℕ) → all_whole xs ≡ true → find (b ∷ 0 ∷ []) xs k ≡ 0
unfolding find
find-zero b [] k e = refl
find-zero b (x ∷ xs) k e =
    let (p, q) = both_true (whole x) (all_whole xs) e in
    rw (same-zero b x p) (find-zero b xs (k + 1) q)

mark-sized : (b : ℕ) (s : List ℕ) → Sized (suc (length s)) (mark_of b (get_or s 0 0))
mark-sized b [] = rw (find-zero b marks 1 refl) (by_test (Sized 1) (eqb (find (b ∷ []) marks 1) 0) (λ _. (omega arith, omega arith)) (λ _. (omega arith, omega arith)))
mark-sized b (c ∷ s) =
    by_test (Sized (suc (suc (length s)))) (eqb (find (b ∷ c ∷ []) marks 1) 0)
    (λ _. by_test (Sized (suc (suc (length s)))) (eqb (find (b ∷ []) marks 1) 0) (λ _. (omega arith, omega arith)) (λ _. (omega arith, omega arith)))
    (λ _. (omega arith, omega arith))

pub piece-sized : (b : ℕ) (s : List ℕ) → Sized (suc (length s)) (piece_of (b ∷ s))
unfolding piece_of
piece-sized b s =
    let P = Sized (suc (length s)) in
    by_test P (is_blank b) (λ _. (omega arith, omega arith))
    (λ _. by_test P (is_letter b) (λ e. word-sized (b ∷ s) (span is_word (b ∷ s)) (suc (length s)) (span-some is_word b s (right-holds (is_digit b) (is_letter b) e)) (span_le is_word (b ∷ s)))
    (λ _. by_test P (is_digit b) (λ e. number-sized (b ∷ s) (span is_digit (b ∷ s)) (suc (length s)) (span-some is_digit b s e) (span_le is_digit (b ∷ s)))
    (λ _. by_test P (eqb b quote) (λ _. string_sized s (quoted false s) refl)
    (λ _. by_test P (both (eqb b slash) (eqb (get_or s 0 0) star)) (λ e. comment_sized s (closing false (drop 1 s)) (eqb-true (get_or s 0 0) star (both_true (eqb b slash) (eqb (get_or s 0 0) star) e).1) refl)
    (λ _. mark-sized b s)))))
