-- The piece at the front of a text is exact: a spelled token with no byte behind it that would join it is taken, and whatever is taken is such a token; gaps likewise.
use mathlib.Core.Path.{◌≡◌, refl, sym, ap, ◌∙◌, subst}
use mathlib.Core.Bool.{Bool, true, false, not}
use mathlib.Core.List.{List, [], ◌∷◌, ◌++◌, append_assoc}
use Prim.Native.Nat.{ℕ, zero, suc, ◌+◌, ◌-◌, ◌≤◌, ◌<◌}
use native.Mathlib.Omega.{arith}
use borrow.Author.Tests.{lt-ltb, le-ltb, ltb-true, ltb-false, eq-eqb, ne_eqb, eqb-true, eqb-false, not-true}
use lib.Dec.{eqb, ltb}
use lib.ListN.{length, get_or, take, drop, length-append, take-append-drop}
use lib.Seq.{take-append_seam, length-take-le}
use Rattle.base_ceilings.specs.Ceilings.{number_most, string_most, word_most}
use Rattle.base_bytes.specs.Choice.{pick, both, either}
use Rattle.base_bytes.specs.Lists.{same}
use Rattle.base_bytes.proofs.Tests.{both_true, either_true, either_false, true_false}
use Rattle.base_kinds.specs.Kinds.{marks, number_kind, string_kind}
use Rattle.spec_text.specs.Find.{find, word_kind}
use Rattle.spec_text.specs.Bytes.{is_blank, is_letter, is_digit, is_word, quote, slash, star}
use Rattle.text_pieces.specs.Spans.{span, closing, quoted}
use Rattle.spec_text.specs.Digits.{decimal}
use Rattle.text_pieces.specs.Pieces.{word_of, number_of, string_of, comment_of, mark_of, piece_of}
use Rattle.text_pieces.specs.declared.Piece.{Piece}
use Rattle.text_pieces.specs.declared.Piece.TheVariants.{Skip, Take, Stop}
use Rattle.std.specs.Prelude.{Option, Some, None}
use Rattle.text_pieces.specs.declared.Quoted.{Quoted}
use Rattle.text_pieces.specs.declared.Quoted.TheVariants.{Closed, Spoiled, Unclosed}
use Rattle.text_pieces.proofs.Laws.{span_le}
use Rattle.text_pieces.proofs.Sizes.{by_test, find-zero}
use Rattle.text_spellings.proofs.Laws.{two-one}
use Rattle.spec_text.specs.Spelled.{all, Between, Spelled, word, digits, string, mark, mark_joins, joins}
use Rattle.spec_text.specs.Layout.{Gap, none, blank, comment}
use Rattle.text_spacing_proof.proofs.Classes.{digit_letter, digit-blank, letter_blank}
use Rattle.text_spacing_proof.proofs.Comments.{closing-next}
use Rattle.text_spacing_proof.proofs.Tables.{mark_range, word_range, every, found_passes, fails_unfound}
use Rattle.text_spacing_proof.proofs.Spans.{span-whole, span-all, span_stops, quoted-whole, Ends, quoted-ends, closing-more, Comment, comment_ends}

-- ---- which test `joins` makes, kind by kind
pub joins-word : (w x : List ℕ) (c : ℕ) → joins (word_kind w) x c ≡ is_word c
joins-word w x c = let (p, q) = word_range w in rw (le-ltb (word_kind w) 38 p, lt-ltb (word_kind w) 71 q)

pub joins-mark : (k : ℕ) (x : List ℕ) (c : ℕ) → find x marks 1 ≡ suc k → joins (suc k) x c ≡ mark_joins x c
joins-mark k x c e = rw (lt-ltb (suc k) 38 (mark_range x k e))

-- ---- marks: what every mark of the table is
-- its first byte begins nothing else
unfoldable pub fronts : ℕ → Bool
fronts a = both (not (is_blank a)) (both (not (is_letter a)) (both (not (is_digit a)) (not (eqb a quote))))

-- it has one byte or two, and does not open a comment
unfoldable pub markish : List ℕ → Bool
markish [] = false
markish (a ∷ []) = fronts a
markish (a ∷ c ∷ []) = both (fronts a) (not (both (eqb a slash) (eqb c star)))
markish (a ∷ c ∷ d ∷ x) = false

all-markish : every markish marks ≡ true
unfolding markish fronts
all-markish = refl

pub mark-passes : (x : List ℕ) (k : ℕ) → find x marks 1 ≡ suc k → markish x ≡ true
mark-passes x k e = found_passes markish x marks 1 all-markish (λ z. omega arith)

-- behind a byte that begins nothing else, a mark is looked for
fronts-mark : (a : ℕ) (s : List ℕ) → fronts a ≡ true → both (eqb a slash) (eqb (get_or s 0 0) star) ≡ false → piece_of (a ∷ s) ≡ mark_of a (get_or s 0 0)
unfolding piece_of fronts
fronts-mark a s e h =
    let (p, q) = both_true (not (is_blank a)) (both (not (is_letter a)) (both (not (is_digit a)) (not (eqb a quote)))) e in
    let (r, t) = both_true (not (is_letter a)) (both (not (is_digit a)) (not (eqb a quote))) q in
    let (u, v) = both_true (not (is_digit a)) (not (eqb a quote)) t in
    rw (not-true (is_blank a) p, not-true (is_letter a) r, not-true (is_digit a) u, not-true (eqb a quote) v, h)

no_find : (n : ℕ) → ltb 0 n ≡ false → n ≡ 0
no_find n e = let h = ltb-false 0 n e in omega arith

-- the second half of `mark_joins`, for a mark of one byte
one-slash : (a c : ℕ) → both (same (a ∷ []) (slash ∷ [])) (eqb c star) ≡ both (eqb a slash) (eqb c star)
unfolding same
one-slash a c = go (eqb a slash)
  where
    go : (t : Bool) → both (both t true) (eqb c star) ≡ both t (eqb c star)
    go true = refl
    go false = refl

mark-front : (x rest : List ℕ) (k : ℕ) → markish x ≡ true → find x marks 1 ≡ suc k → mark_joins x (get_or rest 0 0) ≡ false → piece_of (x ++ rest) ≡ Take (suc k) (length x)
unfolding markish
mark-front [] rest k m e j = absurd (true_false (sym m))
mark-front (a ∷ []) rest k m e j =
    let (p, q) = either_false (ltb 0 (find (a ∷ get_or rest 0 0 ∷ []) marks 1)) (both (same (a ∷ []) (slash ∷ [])) (eqb (get_or rest 0 0) star)) j in
    fronts-mark a rest m (sym (one-slash a (get_or rest 0 0)) ∙ q)
    ∙ rw (no_find (find (a ∷ get_or rest 0 0 ∷ []) marks 1) p, e, ne_eqb (suc k) 0 (λ z. omega arith))
mark-front (a ∷ c ∷ []) rest k m e j =
    let (p, q) = both_true (fronts a) (not (both (eqb a slash) (eqb c star))) m in
    fronts-mark a (c ∷ rest) p (not-true (both (eqb a slash) (eqb c star)) q) ∙ rw (e, ne_eqb (suc k) 0 (λ z. omega arith))
mark-front (a ∷ c ∷ d ∷ x) rest k m e j = absurd (true_false (sym m))

-- ---- THE FRONT, ONE WAY: a spelled token is taken
pub first_word : (b : ℕ) (s : List ℕ) → is_letter b ≡ true → all is_word s ≡ true → all is_word (b ∷ s) ≡ true
unfolding all
first_word b s e a = rw (either-last (is_digit b) e, a)
  where
    either-last : (t : Bool) → is_letter b ≡ true → either t (is_letter b) ≡ true
    either-last true q = refl
    either-last false q = q

pub first-digit : (b : ℕ) (s : List ℕ) → is_digit b ≡ true → all is_digit s ≡ true → all is_digit (b ∷ s) ≡ true
unfolding all
first-digit b s e a = rw (e, a)

pub front-taken : {k : ℕ} {x : List ℕ} (rest : List ℕ) → Spelled k x → joins k x (get_or rest 0 0) ≡ false → piece_of (x ++ rest) ≡ Take k (length x)
unfolding piece_of
front-taken rest (word {b = b} {s = s} l a h) j =
    let n : span is_word (b ∷ s ++ rest) ≡ length (b ∷ s) = span-whole is_word (b ∷ s) rest (first_word b s l a) (sym (joins-word (b ∷ s) (b ∷ s) (get_or rest 0 0)) ∙ j) in
    rw (letter_blank b l, l, n, le-ltb word_most (suc (length s)) h, take-append_seam s rest)
front-taken rest (digits {b = b} {s = s} d a h) j =
    let n : span is_digit (b ∷ s ++ rest) ≡ length (b ∷ s) = span-whole is_digit (b ∷ s) rest (first-digit b s d a) j in
    rw (digit-blank b d, digit_letter b d, d, n, take-append_seam s rest, le-ltb number_most (decimal (b ∷ s)) h)
front-taken rest (string {s = s} b h) j =
    rw (append_assoc s (quote ∷ []) rest, quoted-whole rest b, le-ltb (string_most + 1) (length s + 1) (omega arith))
    (ap (Take string_kind) (omega (arith, length-append s (quote ∷ []))))
front-taken rest (mark {k = k} {x = x} e) j = mark-front x rest k (mark-passes x k e) e (sym (joins-mark k x (get_or rest 0 0) e) ∙ j)

-- ---- THE FRONT, THE OTHER WAY: what is taken is a spelled token, and the longest
pub record FrontToken (s : List ℕ) (k n : ℕ) : Type 0 where
  pub x : List ℕ
  pub rest : List ℕ
  pub whole : s ≡ x ++ rest
  pub size : length x ≡ n
  pub spelled : Spelled k x
  pub longest : joins k x (get_or rest 0 0) ≡ false

not_taken : {X : Type 0} {m k n : ℕ} → Skip m ≡ Take k n → X
not_taken e = absurd (let z : ◌≡◌ {A = ℕ} 0 1 = cc in omega arith)

not_stopped : {X : Type 0} {i m k n : ℕ} → Stop i m ≡ Take k n → X
not_stopped e = absurd (let z : ◌≡◌ {A = ℕ} 0 1 = cc in omega arith)

-- a run: its bytes, and what lies behind
split-run : (p : ℕ → Bool) (b : ℕ) (s : List ℕ) → p b ≡ true → (m : ℕ) × (span p (b ∷ s) ≡ suc m) × (take (suc m) (b ∷ s) ≡ b ∷ take m s) × (all p (take m s) ≡ true) × (m ≤ length s)
unfolding span
split-run p b s e = (span p s, rw e, refl, span-all p s, span_le p s)

word-taken : (b : ℕ) (s : List ℕ) (k n : ℕ) → is_letter b ≡ true → word_of (b ∷ s) (span is_word (b ∷ s)) ≡ Take k n → FrontToken (b ∷ s) k n
word-taken b s k n l e = go (split-run is_word b s (first l))
  where
    first : is_letter b ≡ true → is_word b ≡ true
    first q = rw q (last (is_digit b))
      where
        last : (t : Bool) → either t true ≡ true
        last true = refl
        last false = refl

    go : (m : ℕ) × (span is_word (b ∷ s) ≡ suc m) × (take (suc m) (b ∷ s) ≡ b ∷ take m s) × (all is_word (take m s) ≡ true) × (m ≤ length s) → FrontToken (b ∷ s) k n
    go (m, u, v, a, h) = by_test (λ (p : Piece). p ≡ Take k n → FrontToken (b ∷ s) k n) (ltb word_most (suc m)) (λ _ q. not_stopped q) taken (rw u at e)
      where
        taken : ltb word_most (suc m) ≡ false → Take (word_kind (b ∷ take m s)) (suc m) ≡ Take k n → FrontToken (b ∷ s) k n
        taken f q =
            let kk : word_kind (b ∷ take m s) ≡ k = cc in
            let nn : suc m ≡ n = cc in
            let sz : length (take m s) ≡ m = length-take-le m s h in
            rw (← kk)
            (record {
              x = b ∷ take m s;
              rest = drop m s;
              whole = ap (b ∷◌) (sym (take-append-drop m s));
              size = ap suc sz ∙ nn;
              spelled = word {b = b} {s = take m s} l a (omega (arith, ltb-false word_most (suc m) f));
              longest = joins-word (b ∷ take m s) (b ∷ take m s) (get_or (drop m s) 0 0) ∙ (rw u at (span_stops is_word refl (b ∷ s)));
            })

number-taken : (b : ℕ) (s : List ℕ) (k n : ℕ) → is_digit b ≡ true → number_of (b ∷ s) (span is_digit (b ∷ s)) ≡ Take k n → FrontToken (b ∷ s) k n
number-taken b s k n d e = go (split-run is_digit b s d)
  where
    go : (m : ℕ) × (span is_digit (b ∷ s) ≡ suc m) × (take (suc m) (b ∷ s) ≡ b ∷ take m s) × (all is_digit (take m s) ≡ true) × (m ≤ length s) → FrontToken (b ∷ s) k n
    go (m, u, v, a, h) = by_test (λ (p : Piece). p ≡ Take k n → FrontToken (b ∷ s) k n) (ltb number_most (decimal (b ∷ take m s))) (λ _ q. not_stopped q) taken (rw u at e)
      where
        taken : ltb number_most (decimal (b ∷ take m s)) ≡ false → Take number_kind (suc m) ≡ Take k n → FrontToken (b ∷ s) k n
        taken f q =
            let kk : number_kind ≡ k = cc in
            let nn : suc m ≡ n = cc in
            let sz : length (take m s) ≡ m = length-take-le m s h in
            rw (← kk)
            (record {
              x = b ∷ take m s;
              rest = drop m s;
              whole = ap (b ∷◌) (sym (take-append-drop m s));
              size = ap suc sz ∙ nn;
              spelled = digits d a (ltb-false number_most (decimal (b ∷ take m s)) f);
              longest = rw u at (span_stops is_digit refl (b ∷ s));
            })

string_taken : (s : List ℕ) (k n : ℕ) (y : Quoted) → quoted false s ≡ y → string_of y (length s) ≡ Take k n → FrontToken (quote ∷ s) k n
string_taken s k n (Closed m) g e = by_test (λ (p : Piece). p ≡ Take k n → FrontToken (quote ∷ s) k n) (ltb (string_most + 1) m) (λ _ q. not_stopped q) taken e
  where
    taken : ltb (string_most + 1) m ≡ false → Take string_kind (m + 1) ≡ Take k n → FrontToken (quote ∷ s) k n
    taken f q =
        let kk : string_kind ≡ k = cc in
        let nn : m + 1 ≡ n = cc in
        let z = quoted-ends s m g in
        rw (← kk)
        (record {
          x = quote ∷ z.inside ++ quote ∷ [];
          rest = z.rest;
          whole = ap (quote ∷◌) (z.whole ∙ sym (append_assoc z.inside (quote ∷ []) z.rest));
          size = omega (arith, length-append z.inside (quote ∷ []), z.size);
          spelled = string z.between (omega (arith, ltb-false (string_most + 1) m f, z.size));
          longest = refl;
        })
string_taken s k n (Spoiled m) g e = not_stopped e
string_taken s k n Unclosed g e = not_stopped e

-- no mark has three bytes
unfoldable pub short : List ℕ → Bool
short [] = true
short (a ∷ []) = true
short (a ∷ b ∷ []) = true
short (a ∷ b ∷ c ∷ x) = false

no_third : (b a c : ℕ) → mark_joins (b ∷ a ∷ []) c ≡ false
unfolding short
no_third b a c = rw (fails_unfound short (b ∷ a ∷ c ∷ []) marks 1 refl refl, two-one b a slash)

module _ (b : ℕ) where
  two-taken : (s : List ℕ) (j : ℕ) → find (b ∷ get_or s 0 0 ∷ []) marks 1 ≡ suc j → FrontToken (b ∷ s) (suc j) 2
  two-taken [] j q = absurd (let z = find-zero b marks 1 refl in omega arith)
  two-taken (a ∷ s) j q =
      record {
        x = b ∷ a ∷ [];
        rest = s;
        whole = refl;
        size = refl;
        spelled = mark q;
        longest = joins-mark j (b ∷ a ∷ []) (get_or s 0 0) q ∙ no_third b a (get_or s 0 0);
      }

  one-taken : (s : List ℕ) (j : ℕ) → both (eqb b slash) (eqb (get_or s 0 0) star) ≡ false → find (b ∷ get_or s 0 0 ∷ []) marks 1 ≡ 0 → find (b ∷ []) marks 1 ≡ suc j → FrontToken (b ∷ s) (suc j) 1
  one-taken s j c p q =
      record {
        x = b ∷ [];
        rest = s;
        whole = refl;
        size = refl;
        spelled = mark q;
        longest = joins-mark j (b ∷ []) (get_or s 0 0) q ∙ rw p (one-slash b (get_or s 0 0) ∙ c);
      }

same-take : {s : List ℕ} {i m k n : ℕ} → Take i m ≡ Take k n → FrontToken s i m → FrontToken s k n
same-take {s} {i} {m} {k} {n} e t =
    let p : i ≡ k = cc in
    let q : m ≡ n = cc in
    rw (← p, ← q) t

mark-taken : (b : ℕ) (s : List ℕ) (k n : ℕ) → both (eqb b slash) (eqb (get_or s 0 0) star) ≡ false → mark_of b (get_or s 0 0) ≡ Take k n → FrontToken (b ∷ s) k n
mark-taken b s k n c e = go (find (b ∷ get_or s 0 0 ∷ []) marks 1) refl (find (b ∷ []) marks 1) refl e
  where
    some : (j : ℕ) → eqb (suc j) 0 ≡ false
    some j = ne_eqb (suc j) 0 (λ z. omega arith)

    go : (x : ℕ) → find (b ∷ get_or s 0 0 ∷ []) marks 1 ≡ x → (y : ℕ) → find (b ∷ []) marks 1 ≡ y → pick (eqb x 0) (pick (eqb y 0) (Stop 1 1) (Take y 1)) (Take x 2) ≡ Take k n → FrontToken (b ∷ s) k n
    go zero p zero q e = not_stopped e
    go zero p (suc j) q e = same-take (rw (some j) at e) (one-taken b s j c p q)
    go (suc j) p y q e = same-take (rw (some j) at e) (two-taken b s j p)

not_commented : {X : Type 0} (x : Option ℕ) (m k n : ℕ) → comment_of x m ≡ Take k n → X
not_commented (Some i) m k n e = not_taken e
not_commented None m k n e = not_stopped e

pub front-sound : (b : ℕ) (s : List ℕ) (k n : ℕ) → piece_of (b ∷ s) ≡ Take k n → FrontToken (b ∷ s) k n
unfolding piece_of
front-sound b s k n =
    let P : Piece → Type 0 = λ p. p ≡ Take k n → FrontToken (b ∷ s) k n in
    by_test P (is_blank b) (λ _ e. not_taken e)
    (λ _. by_test P (is_letter b) (λ l. word-taken b s k n l)
    (λ _. by_test P (is_digit b) (λ d. number-taken b s k n d)
    (λ _. by_test P (eqb b quote) (λ q e. subst (λ (a : ℕ). FrontToken (a ∷ s) k n) (sym (eqb-true b quote q)) (string_taken s k n (quoted false s) refl e))
    (λ _. by_test P (both (eqb b slash) (eqb (get_or s 0 0) star)) (λ _. not_commented (closing false (drop 1 s)) (length (drop 1 s)) k n)
    (λ c. mark-taken b s k n c)))))

-- ---- gaps: a piece that is skipped
-- one blank or one comment
pub record Skipped (s : List ℕ) (n : ℕ) : Type 0 where
  pub g : List ℕ
  pub rest : List ℕ
  pub whole : s ≡ g ++ rest
  pub size : length g ≡ n
  pub gap : (h : List ℕ) → Gap h → Gap (g ++ h)

not_skipped : {X : Type 0} {k m n : ℕ} → Take k m ≡ Skip n → X
not_skipped e = absurd (let z : ◌≡◌ {A = ℕ} 0 1 = cc in omega arith)

not-passed : {X : Type 0} {i m n : ℕ} → Stop i m ≡ Skip n → X
not-passed e = absurd (let z : ◌≡◌ {A = ℕ} 0 1 = cc in omega arith)

no_string : {X : Type 0} (y : Quoted) (m n : ℕ) → string_of y m ≡ Skip n → X
no_string {X} (Closed i) m n e = by_test (λ (p : Piece). p ≡ Skip n → X) (ltb (string_most + 1) i) (λ _ q. not-passed q) (λ _ q. not_skipped q) e
no_string (Spoiled i) m n e = not-passed e
no_string Unclosed m n e = not-passed e

comment_skipped : (s : List ℕ) (m n : ℕ) (y : Option ℕ) → closing false s ≡ y → comment_of y m ≡ Skip n → Skipped (slash ∷ star ∷ s) n
comment_skipped s m n (Some j) q e =
    let z = comment_ends s j q in
    let l : j + 2 ≡ n = cc in
    record {
      g = slash ∷ star ∷ z.inside ++ star ∷ slash ∷ [];
      rest = z.rest;
      whole = ap (λ (a : List ℕ). slash ∷ star ∷ a) (z.whole ∙ sym (append_assoc z.inside (star ∷ slash ∷ []) z.rest));
      size = omega (arith, length-append z.inside (star ∷ slash ∷ []), z.size);
      gap = λ h G. rw (append_assoc z.inside (star ∷ slash ∷ []) h) (comment z.inside ((closing-next z.inside).0 z.alone) G);
    }
comment_skipped s m n None q e = not-passed e

starred : (b : ℕ) (s : List ℕ) (n : ℕ) → b ≡ slash → get_or s 0 0 ≡ star → comment_of (closing false (drop 1 s)) (length (drop 1 s)) ≡ Skip n → Skipped (b ∷ s) n
starred b [] n p q e = absurd (omega arith)
starred b (a ∷ s) n p q e = rw (p, q) (comment_skipped s (length s) n (closing false s) refl e)

pub skip_sound : (b : ℕ) (s : List ℕ) (n : ℕ) → piece_of (b ∷ s) ≡ Skip n → Skipped (b ∷ s) n
unfolding piece_of
skip_sound b s n =
    let P : Piece → Type 0 = λ p. p ≡ Skip n → Skipped (b ∷ s) n in
    by_test P (is_blank b) (λ h e. record { g = b ∷ []; rest = s; whole = refl; size = cc; gap = λ _ G. blank h G })
    (λ _. by_test P (is_letter b) (λ _. by_test P (ltb word_most (span is_word (b ∷ s))) (λ _ e. not-passed e) (λ _ e. not_skipped e))
    (λ _. by_test P (is_digit b) (λ _. by_test P (ltb number_most (decimal (take (span is_digit (b ∷ s)) (b ∷ s)))) (λ _ e. not-passed e) (λ _ e. not_skipped e))
    (λ _. by_test P (eqb b quote) (λ _. no_string (quoted false s) (length s) n)
    (λ _. by_test P (both (eqb b slash) (eqb (get_or s 0 0) star))
    (λ c. let (u, v) = both_true (eqb b slash) (eqb (get_or s 0 0) star) c in starred b s n (eqb-true b slash u) (eqb-true (get_or s 0 0) star v))
    (λ _. by_test P (eqb (find (b ∷ get_or s 0 0 ∷ []) marks 1) 0) (λ _. by_test P (eqb (find (b ∷ []) marks 1) 0) (λ _ e. not-passed e) (λ _ e. not_skipped e)) (λ _ e. not_skipped e))))))

markish-some : (x : List ℕ) → markish x ≡ true → 0 < length x
unfolding markish
markish-some [] m = absurd (true_false (sym m))
markish-some (a ∷ x) m = omega arith

-- every spelled token has a byte
pub spelled-some : {k : ℕ} {x : List ℕ} → Spelled k x → 0 < length x
spelled-some (word l a h) = omega arith
spelled-some (digits d a h) = omega arith
spelled-some (string b h) = omega arith
spelled-some (mark {k = k} {x = x} e) = markish-some x (mark-passes x k e)
