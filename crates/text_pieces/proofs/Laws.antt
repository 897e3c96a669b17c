-- The laws that the proofs of the loops and of the tables cite: one byte more of a run, a number, a comment, a string; one entry more of a table.
use mathlib.Core.Path.{◌≡◌, refl, sym, ap, ◌∙◌}
use mathlib.Core.Bool.{Bool, true, false}
use mathlib.Core.List.{List, [], ◌∷◌}
use Prim.Native.Nat.{ℕ, suc, ◌+◌, ◌-◌, ◌*◌, ◌≤◌, ◌<◌, min}
use native.Mathlib.Omega.{arith}
use native.Mathlib.Numerals.{add-one}
use lib.Dec.{eqb}
use lib.ListN.{length, get_or, take, drop, drop_of_length-le}
use lib.Seq.{drop-cons, take_all}
use Rattle.base_bytes.specs.Choice.{pick, both}
use Rattle.spec_text.specs.Bytes.{is_blank, is_letter, is_digit, is_word, quote, slash, star}
use Rattle.text_pieces.specs.Spans.{in_run, span, one_more, closing, move_of, further, moved, quoted}
use Rattle.spec_text.specs.Digits.{decimal_from}
use Rattle.text_pieces.specs.Pieces.{word_of, number_of, string_of, comment_of, mark_of, piece_of}
use Rattle.text_pieces.specs.declared.Piece.{Piece}
use Rattle.text_pieces.specs.declared.Piece.TheVariants.{Skip}
use Rattle.base_bytes.proofs.Tests.{both_true, either_no}
use lib.ListN.{get_or-eq_default, length-drop}
use native.Mathlib.Decide.{dec_le}
use borrow.Author.Tests.{eqb-true}
use Rattle.std.specs.Prelude.{Option, Some, None}
use Rattle.text_pieces.specs.declared.Quoted.{Quoted}
use Rattle.text_pieces.specs.declared.Quoted.TheVariants.{Closed, Spoiled, Unclosed}
use Rattle.text_pieces.specs.declared.Move.{Move}
use Rattle.text_pieces.specs.declared.Move.TheVariants.{On, End, Bad}

-- ---- a run of bytes
pub span_stop : (p : ℕ → Bool) (s : List ℕ) (i : ℕ) → i < length s → p (get_or s i 0) ≡ false → span p (drop i s) ≡ 0
unfolding span
span_stop p s i h e = rw (drop-cons s i 0 h, e)

pub span_more : (p : ℕ → Bool) (s : List ℕ) (i : ℕ) → i < length s → p (get_or s i 0) ≡ true → span p (drop i s) ≡ suc (span p (drop (i + 1) s))
unfolding span
span_more p s i h e = rw (drop-cons s i 0 h, e, add-one)

pub span_end : (p : ℕ → Bool) (s : List ℕ) (i : ℕ) → length s ≤ i → span p (drop i s) ≡ 0
unfolding span
span_end p s i h = rw (drop_of_length-le s h)

pub span_le : (p : ℕ → Bool) (s : List ℕ) → span p s ≤ length s
unfolding span
span_le p [] = omega arith
span_le p (b ∷ s) = go (p b) (span_le p s)
  where
    go : (t : Bool) → span p s ≤ length s → pick t (suc (span p s)) 0 ≤ suc (length s)
    go true h = omega arith
    go false h = omega arith

-- without letters a run is of digits
pub span-digits : (s : List ℕ) → span (in_run false) s ≡ span is_digit s
unfolding span
span-digits [] = refl
span-digits (b ∷ s) = rw (either_no (is_digit b), span-digits s)

-- ---- a number, cut off at a most
module _ (most : ℕ) where
  cut_alike : (s : List ℕ) (v w : ℕ) → min most v ≡ min most w → min most (decimal_from v s) ≡ min most (decimal_from w s)
  unfolding decimal_from
  cut_alike [] v w e = e
  cut_alike (b ∷ s) v w e = cut_alike s (v * 10 + (b - 48)) (w * 10 + (b - 48)) (more (b - 48))
    where
      more : (d : ℕ) → min most (v * 10 + d) ≡ min most (w * 10 + d)
      more d = omega arith

  pub cut_more : (s : List ℕ) (i v : ℕ) → i < length s →
      min most (decimal_from (min most (v * 10 + (get_or s i 0 - 48))) (drop (i + 1) s)) ≡ min most (decimal_from v (drop i s))
  unfolding decimal_from
  cut_more s i v h =
      rw (drop-cons s i 0 h, add-one)
      (cut_alike (drop (suc i) s) (min most (v * 10 + (get_or s i 0 - 48))) (v * 10 + (get_or s i 0 - 48)) (twice (v * 10 + (get_or s i 0 - 48))))
    where
      twice : (x : ℕ) → min most (min most x) ≡ min most x
      twice x = omega arith

  pub cut_end : (s : List ℕ) (i v : ℕ) → length s ≤ i → v ≤ most → v ≡ min most (decimal_from v (drop i s))
  unfolding decimal_from
  cut_end s i v h k = rw (drop_of_length-le s h) (omega arith)

-- ---- a comment
abbrev pub later : ℕ → Option ℕ → Option ℕ
later i (Some n) = Some (i + n)
later i None = None

later-zero : (x : Option ℕ) → later 0 x ≡ x
later-zero (Some n) = ap Some (omega arith)
later-zero None = refl

later_more : (i : ℕ) (x : Option ℕ) → later i (one_more x) ≡ later (i + 1) x
later_more i (Some n) = ap Some (omega arith)
later_more i None = refl

pub closing-start : (s : List ℕ) → later 0 (closing false s) ≡ closing false s
closing-start s = later-zero (closing false s)

pub closing-here : (starred : Bool) (s : List ℕ) (i : ℕ) → i < length s → both starred (eqb (get_or s i 0) slash) ≡ true → later i (closing starred (drop i s)) ≡ Some (i + 1)
unfolding closing
closing-here starred s i h e = rw (drop-cons s i 0 h, e)

pub closing-more : (starred : Bool) (s : List ℕ) (i : ℕ) → i < length s → both starred (eqb (get_or s i 0) slash) ≡ false →
    later i (closing starred (drop i s)) ≡ later (i + 1) (closing (eqb (get_or s i 0) star) (drop (i + 1) s))
unfolding closing
closing-more starred s i h e = rw (drop-cons s i 0 h, e, later_more i (closing (eqb (get_or s i 0) star) (drop (suc i) s)), ← add-one i)

pub closing_end : (starred : Bool) (s : List ℕ) (i : ℕ) → length s ≤ i → later i (closing starred (drop i s)) ≡ None
unfolding closing
closing_end starred s i h = rw (drop_of_length-le s h)

-- ---- a string
abbrev pub after : ℕ → Quoted → Quoted
after i (Closed n) = Closed (i + n)
after i (Spoiled n) = Spoiled (i + n)
after i Unclosed = Unclosed

after-zero : (x : Quoted) → after 0 x ≡ x
after-zero (Closed n) = ap Closed (omega arith)
after-zero (Spoiled n) = ap Spoiled (omega arith)
after-zero Unclosed = refl

after_more : (i : ℕ) (x : Quoted) → after i (further x) ≡ after (i + 1) x
after_more i (Closed n) = ap Closed (omega arith)
after_more i (Spoiled n) = ap Spoiled (omega arith)
after_more i Unclosed = refl

pub quoted-start : (s : List ℕ) → after 0 (quoted false s) ≡ quoted false s
quoted-start s = after-zero (quoted false s)

pub quoted_move : (escaped : Bool) (s : List ℕ) (i : ℕ) → i < length s →
    after i (quoted escaped (drop i s)) ≡ after i (moved (move_of escaped (get_or s i 0)) (λ e. quoted e (drop (i + 1) s)))
unfolding quoted
quoted_move escaped s i h = rw (drop-cons s i 0 h) (simp add-one)

pub quoted_on : (escaped next : Bool) (s : List ℕ) (i : ℕ) → i < length s → move_of escaped (get_or s i 0) ≡ On next →
    after i (quoted escaped (drop i s)) ≡ after (i + 1) (quoted next (drop (i + 1) s))
quoted_on escaped next s i h e = quoted_move escaped s i h ∙ rw e (after_more i (quoted next (drop (i + 1) s)))

pub quoted-closed : (escaped : Bool) (s : List ℕ) (i : ℕ) → i < length s → move_of escaped (get_or s i 0) ≡ End → after i (quoted escaped (drop i s)) ≡ Closed (i + 1)
quoted-closed escaped s i h e = quoted_move escaped s i h ∙ rw e

pub quoted_spoiled : (escaped : Bool) (s : List ℕ) (i : ℕ) → i < length s → move_of escaped (get_or s i 0) ≡ Bad → after i (quoted escaped (drop i s)) ≡ Spoiled (i + 1)
quoted_spoiled escaped s i h e = quoted_move escaped s i h ∙ rw e

pub quoted_end : (escaped : Bool) (s : List ℕ) (i : ℕ) → length s ≤ i → after i (quoted escaped (drop i s)) ≡ Unclosed
unfolding quoted
quoted_end escaped s i h = rw (drop_of_length-le s h)

-- ---- how far a comment and a string can reach
close_le : (s : List ℕ) (starred : Bool) (n : ℕ) → closing starred s ≡ Some n → n ≤ length s
unfolding closing
close_le [] starred n e = absurd (let z : ◌≡◌ {A = ℕ} 0 1 = cc in omega arith)
close_le (b ∷ s) starred n e = go (both starred (eqb b slash)) (closing (eqb b star) s) (close_le s (eqb b star)) e
  where
    go : (t : Bool) (x : Option ℕ) → ((m : ℕ) → x ≡ Some m → m ≤ length s) → pick t (Some 1) (one_more x) ≡ Some n → n ≤ suc (length s)
    go true x f q = let h : 1 ≡ n = cc in omega arith
    go false (Some m) f q = let h : m + 1 ≡ n = cc in omega (arith, f m refl)
    go false None f q = absurd (let z : ◌≡◌ {A = ℕ} 0 1 = cc in omega arith)

pub closed-within : (x : Option ℕ) (s : List ℕ) (n : ℕ) → x ≡ closing false s → x ≡ Some n → n ≤ length s
closed-within x s n e q = close_le s false n (sym e ∙ q)

reach : Quoted → ℕ
reach (Closed n) = n
reach (Spoiled n) = n
reach Unclosed = 0

quoted_le : (s : List ℕ) (escaped : Bool) → reach (quoted escaped s) ≤ length s
unfolding quoted reach
quoted_le [] escaped = omega arith
quoted_le (b ∷ s) escaped = go (move_of escaped b) (λ e. quoted_le s e)
  where
    on : (x : Quoted) → reach x ≤ length s → reach (further x) ≤ suc (length s)
    on (Closed n) h = omega arith
    on (Spoiled n) h = omega arith
    on Unclosed h = omega arith

    go : (m : Move) → ((e : Bool) → reach (quoted e s) ≤ length s) → reach (moved m (λ e. quoted e s)) ≤ suc (length s)
    go (On e) f = on (quoted e s) (f e)
    go End f = omega arith
    go Bad f = omega arith

module _ (x : Quoted) (s : List ℕ) (n : ℕ) (e : x ≡ quoted false s) where
  pub string_within : x ≡ Closed n → n ≤ length s
  unfolding reach
  string_within q = rw (← e, q) at (quoted_le s false)

  pub spoiled_within : x ≡ Spoiled n → n ≤ length s
  unfolding reach
  spoiled_within q = rw (← e, q) at (quoted_le s false)

-- ---- the piece at the front, by places of the text
abbrev pub front_of : ℕ → List ℕ → Piece
front_of b s =
    pick (is_blank b) (Skip 1)
    (pick (is_letter b) (word_of s (span is_word s))
    (pick (is_digit b) (number_of s (span is_digit s))
    (pick (eqb b quote) (string_of (quoted false (drop 1 s)) (length (drop 1 s)))
    (pick (both (eqb b slash) (eqb (get_or s 1 0) star)) (comment_of (closing false (drop 2 s)) (length (drop 2 s)))
    (mark_of b (get_or s 1 0))))))

pub front_of_lem : (s : List ℕ) → (length s ≡ 0 → ⊥) → piece_of s ≡ front_of (get_or s 0 0) s
unfolding piece_of
front_of_lem [] h = absurd (h refl)
front_of_lem (b ∷ s) h = refl

pub nothing_there : (s : List ℕ) → length s ≡ 0 → Skip 0 ≡ piece_of s
unfolding piece_of
nothing_there [] e = refl
nothing_there (b ∷ s) e = absurd (omega arith)

-- a part through the end
pub tail-part : (k : ℕ) (s : List ℕ) → take (length s - k) (drop k s) ≡ drop k s
tail-part k s = take_all (length s - k) (drop k s) (rw (length-drop k s) (omega arith))

pub two_there : (s : List ℕ) (b n : ℕ) → n ≡ get_or s 1 0 → both (eqb b slash) (eqb n star) ≡ true → 2 ≤ length s
two_there s b n e h = go (dec_le 2 (length s))
  where
    starred : n ≡ star
    starred = eqb-true n star (both_true (eqb b slash) (eqb n star) h).1

    go : Dec (2 ≤ length s) → 2 ≤ length s
    go (yes k) = k
    go (no k) = let z : get_or s 1 0 ≡ 0 = get_or-eq_default s 0 {n = 1} (omega arith) in omega (arith, starred)
