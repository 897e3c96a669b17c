-- What stands at the front of a text stops its reading exactly where it can be no token and no gap.
use mathlib.Core.Path.{◌≡◌, refl, sym, ap, ◌∙◌, subst}
use mathlib.Core.Bool.{Bool, true, false, not}
use mathlib.Core.List.{List, [], ◌∷◌, ◌++◌, append-nil}
use Prim.Native.Nat.{ℕ, suc, ◌+◌}
use native.Mathlib.Omega.{arith}
use borrow.Author.Tests.{lt-ltb, ltb-true, ne_eqb, eqb-true}
use lib.Dec.{eqb, ltb}
use lib.ListN.{length, get_or, take, drop, length-append, take-append-drop}
use lib.Seq.{take-append_seam, length-take-le}
use Rattle.base_bytes.specs.Choice.{pick, both, either}
use Rattle.base_bytes.specs.Lists.{same}
use Rattle.base_bytes.proofs.Tests.{both_true, either_false, true_false}
use Rattle.base_kinds.specs.Kinds.{marks}
use Rattle.spec_text.specs.Find.{find}
use Rattle.spec_text.specs.Bytes.{is_blank, is_letter, is_digit, is_word, is_plain, is_escape, quote, backslash, slash, star}
use Rattle.text_pieces.specs.Spans.{span, closing, quoted, moved, further}
use Rattle.text_pieces.specs.Pieces.{word_of, number_of, string_of, comment_of, piece_of}
use Rattle.text_pieces.specs.declared.Piece.{Piece}
use Rattle.text_pieces.specs.declared.Piece.TheVariants.{Skip, Take, Stop}
use Rattle.std.specs.Prelude.{Option, Some, None}
use Rattle.text_pieces.specs.declared.Quoted.{Quoted}
use Rattle.text_pieces.specs.declared.Quoted.TheVariants.{Closed, Spoiled, Unclosed}
use Rattle.text_pieces.specs.declared.Move.TheVariants.{On, End, Bad}
use Rattle.text_pieces.proofs.Laws.{span_le}
use Rattle.text_pieces.proofs.Sizes.{by_test}
use Rattle.base_ceilings.specs.Ceilings.{number_most, string_most, word_most}
use Rattle.spec_text.specs.Digits.{decimal}
use Rattle.spec_text.specs.Spelled.{all, Between, empty, plain, escape}
use Rattle.text_spacing_proof.proofs.Classes.{digit_letter, digit-blank, letter_blank}
use Rattle.text_spacing_proof.proofs.Tables.{every, fails_unfound}
use Rattle.text_spacing_proof.proofs.Spans.{span-whole, span-all, span_stops, quoted-whole}
use Rattle.spec_text.specs.Spoils.{Wrong, stray, bad_byte, bad_escape, unclosed_string, unclosed_escape, unclosed_comment, long_word, large_number, long_string}
use Rattle.text_spacing_proof.proofs.Comments.{never_unended}
use Rattle.text_spacing_proof.proofs.Fronts.{first_word, first-digit}
use Rattle.text_spacing_proof.proofs.Longest.{word_longest, longest_word, number_longest, longest_number}

-- ---- strings: what a text is behind an opening quote, and what is seen of it
data Quote : List ℕ → Quoted → Type 0 where
  closed : {x : List ℕ} (n : ℕ) (s : List ℕ) → Between x → length x + 1 ≡ n → Quote (x ++ quote ∷ s) (Closed n)
  spoiled : {x : List ℕ} (n b : ℕ) (s : List ℕ) → Between x → length x + 1 ≡ n → is_plain b ≡ false → Quote (x ++ b ∷ s) (Spoiled n)
  misescaped : {x : List ℕ} (n b : ℕ) (s : List ℕ) → Between x → length x + 2 ≡ n → is_escape b ≡ false → Quote (x ++ backslash ∷ b ∷ s) (Spoiled n)
  unclosed : {x : List ℕ} → Between x → Quote x Unclosed
  escaping : {x : List ℕ} → Between x → Quote (x ++ backslash ∷ []) Unclosed

module _ (b : ℕ) where
  plain_more : {s : List ℕ} {q : Quoted} → is_plain b ≡ true → eqb b quote ≡ false → eqb b backslash ≡ false → Quote s q → Quote (b ∷ s) (further q)
  plain_more p q r (closed n s z e) = closed (n + 1) s (plain {b = b} p q r z) (omega (arith, e))
  plain_more p q r (spoiled n c s z e h) = spoiled (n + 1) c s (plain {b = b} p q r z) (omega (arith, e)) h
  plain_more p q r (misescaped n c s z e h) = misescaped (n + 1) c s (plain {b = b} p q r z) (omega (arith, e)) h
  plain_more p q r (unclosed z) = unclosed (plain p q r z)
  plain_more p q r (escaping z) = escaping (plain p q r z)

  escape_more : {s : List ℕ} {q : Quoted} → is_escape b ≡ true → Quote s q → Quote (backslash ∷ b ∷ s) (further (further q))
  escape_more p (closed n s z e) = closed (n + 1 + 1) s (escape {b = b} p z) (omega (arith, e))
  escape_more p (spoiled n c s z e h) = spoiled (n + 1 + 1) c s (escape {b = b} p z) (omega (arith, e)) h
  escape_more p (misescaped n c s z e h) = misescaped (n + 1 + 1) c s (escape {b = b} p z) (omega (arith, e)) h
  escape_more p (unclosed z) = unclosed (escape p z)
  escape_more p (escaping z) = escaping (escape p z)

quote_of : (s : List ℕ) → Quote s (quoted false s)
unfolding quoted
quote_of [] = unclosed empty
quote_of (b ∷ []) = go (eqb b quote) refl (eqb b backslash) refl (is_plain b) refl
  where
    go : (q : Bool) → eqb b quote ≡ q → (k : Bool) → eqb b backslash ≡ k → (p : Bool) → is_plain b ≡ p → Quote (b ∷ []) (moved (pick q End (pick k (On true) (pick p (On false) Bad))) (λ x. Unclosed))
    go true f k g p h = rw (eqb-true b quote f) (closed 1 [] empty refl)
    go false f true g p h = rw (eqb-true b backslash g) (escaping empty)
    go false f false g true h = unclosed (plain h f g empty)
    go false f false g false h = spoiled 1 b [] empty refl h
quote_of (b ∷ c ∷ s) = go (eqb b quote) refl (eqb b backslash) refl (is_plain b) refl (quote_of (c ∷ s)) (quote_of s)
  where
    escaped : (x : Bool) → is_escape c ≡ x → Quote s (quoted false s) → Quote (backslash ∷ c ∷ s) (further (moved (pick x (On false) Bad) (λ y. quoted y s)))
    escaped true f r = escape_more c f r
    escaped false f r = misescaped 2 c s empty refl f

    go : (q : Bool) → eqb b quote ≡ q → (k : Bool) → eqb b backslash ≡ k → (p : Bool) → is_plain b ≡ p → Quote (c ∷ s) (quoted false (c ∷ s)) → Quote s (quoted false s)
        → Quote (b ∷ c ∷ s) (moved (pick q End (pick k (On true) (pick p (On false) Bad))) (λ x. quoted x (c ∷ s)))
    go true f k g p h r t = rw (eqb-true b quote f) (closed 1 (c ∷ s) empty refl)
    go false f true g p h r t = rw (eqb-true b backslash g) (escaped (is_escape c) refl t)
    go false f false g true h r t = plain_more b h f g r
    go false f false g false h r t = spoiled 1 b (c ∷ s) empty refl h

-- ---- strings, the other way: what lies behind bytes that may stand between quotes
abbrev later : ℕ → Quoted → Quoted
later n (Closed m) = Closed (n + m)
later n (Spoiled m) = Spoiled (n + m)
later n Unclosed = Unclosed

later-none : (q : Quoted) → q ≡ later 0 q
later-none (Closed m) = ap Closed (omega arith)
later-none (Spoiled m) = ap Spoiled (omega arith)
later-none Unclosed = refl

later_more : (n : ℕ) (q : Quoted) → further (later n q) ≡ later (suc n) q
later_more n (Closed m) = ap Closed (omega arith)
later_more n (Spoiled m) = ap Spoiled (omega arith)
later_more n Unclosed = refl

past : {x : List ℕ} (s : List ℕ) → Between x → quoted false (x ++ s) ≡ later (length x) (quoted false s)
unfolding quoted
past s empty = later-none (quoted false s)
past s (plain {s = x} p q r z) = rw (q, r, p, past s z) (later_more (length x) (quoted false s))
past s (escape {s = x} e z) = rw (e, past s z) (ap further (later_more (length x) (quoted false s)) ∙ later_more (suc (length x)) (quoted false s))

-- ---- marks: what no mark begins with begins none of two bytes
abbrev fronted : List ℕ → Bool
fronted [] = true
fronted (a ∷ []) = true
fronted (a ∷ b ∷ x) = not (eqb (find (a ∷ []) marks 1) 0)

all-fronted : every fronted marks ≡ true
unfolding find same
all-fronted = refl

no_two : (b c : ℕ) → find (b ∷ []) marks 1 ≡ 0 → find (b ∷ c ∷ []) marks 1 ≡ 0
no_two b c e = fails_unfound fronted (b ∷ c ∷ []) marks 1 all-fronted (rw e)

no_slash : (b : ℕ) → find (b ∷ []) marks 1 ≡ 0 → eqb b slash ≡ false
unfolding find same
no_slash b e = ne_eqb b slash (λ q. absurd (let z : find (slash ∷ []) marks 1 ≡ 0 = rw q at e in omega arith))

-- ---- THE FRONT, ONE WAY: what can be no token and no gap stops the reading
string_stops : (s : List ℕ) (q : Quoted) → quoted false s ≡ q → (x n : ℕ) → string_of q (length s) ≡ Stop x n → piece_of (quote ∷ s) ≡ Stop x n
unfolding piece_of
string_stops s q e x n h = rw e h

bad_stops : (b : ℕ) (s : List ℕ) → is_plain b ≡ false → quoted false (b ∷ s) ≡ Spoiled 1
unfolding quoted
bad_stops b s h = rw (other quote refl, other backslash refl, h)
  where
    other : (c : ℕ) → is_plain c ≡ true → eqb b c ≡ false
    other c p = ne_eqb b c (λ e. true_false (sym p ∙ (rw e at h)))

escape_stops : (b : ℕ) (s : List ℕ) → is_escape b ≡ false → quoted false (backslash ∷ b ∷ s) ≡ Spoiled 2
unfolding quoted
escape_stops b s h = rw h

ends-quoted : quoted false [] ≡ Unclosed
unfolding quoted
ends-quoted = refl

ends_escaping : quoted false (backslash ∷ []) ≡ Unclosed
unfolding quoted
ends_escaping = refl

pub wrong_stops : {s : List ℕ} {x n : ℕ} → Wrong s x n → piece_of s ≡ Stop x n
unfolding piece_of
wrong_stops (stray b s l w q m) =
    let (d, a) = either_false (is_digit b) (is_letter b) w in
    rw (l, a, d, q, no_slash b m, no_two b (get_or s 0 0) m, m)
wrong_stops (bad_byte {x = x} b s z h) =
    string_stops (x ++ b ∷ s) (Spoiled (length x + 1)) (past (b ∷ s) z ∙ ap (later (length x)) (bad_stops b s h)) 1 (length x + 2) (ap (Stop 1) (omega arith))
wrong_stops (bad_escape {x = x} b s z h) =
    string_stops (x ++ backslash ∷ b ∷ s) (Spoiled (length x + 2)) (past (backslash ∷ b ∷ s) z ∙ ap (later (length x)) (escape_stops b s h)) 1 (length x + 3) (ap (Stop 1) (omega arith))
wrong_stops (unclosed_string {x = x} z) =
    string_stops x Unclosed (ap (quoted false) (sym (append-nil x)) ∙ (past [] z ∙ ap (later (length x)) ends-quoted)) 1 (length x + 1) refl
wrong_stops (unclosed_escape {x = x} z) =
    string_stops (x ++ backslash ∷ []) Unclosed (past (backslash ∷ []) z ∙ ap (later (length x)) ends_escaping) 1 (length x + 2) (ap (Stop 1) (omega (arith, length-append x (backslash ∷ []))))
wrong_stops (unclosed_comment c u) = rw ((never_unended c).1 u)
wrong_stops (long_word b x s l a j h) =
    let n : span is_word (b ∷ x ++ s) ≡ length (b ∷ x) = span-whole is_word (b ∷ x) s (first_word b x l a) (longest_word b x s l a j) in
    rw (letter_blank b l, l, n, lt-ltb word_most (suc (length x)) h)
wrong_stops (large_number b x s d a j h) =
    let n : span is_digit (b ∷ x ++ s) ≡ length (b ∷ x) = span-whole is_digit (b ∷ x) s (first-digit b x d a) (longest_number b x s d a j) in
    rw (digit-blank b d, digit_letter b d, d, n, take-append_seam x s, lt-ltb number_most (decimal (b ∷ x)) h)
wrong_stops (long_string {x = x} s z h) =
    string_stops (x ++ quote ∷ s) (Closed (length x + 1)) (quoted-whole s z) 2 (length x + 2) (rw (lt-ltb (string_most + 1) (length x + 1) (omega arith)) (ap (Stop 2) (omega arith)))

-- ---- THE FRONT, THE OTHER WAY: what stops the reading can be no token and no gap
not_skipped : {X : Type 0} {m x n : ℕ} → Skip m ≡ Stop x n → X
not_skipped e = absurd (let z : ◌≡◌ {A = ℕ} 0 1 = cc in omega arith)

not_taken : {X : Type 0} {k m x n : ℕ} → Take k m ≡ Stop x n → X
not_taken e = absurd (let z : ◌≡◌ {A = ℕ} 0 1 = cc in omega arith)

-- the same refusal, said in other words
alike : {s : List ℕ} {x n y m : ℕ} → Stop x n ≡ Stop y m → Wrong s x n → Wrong s y m
alike {s} {x} {n} {y} {m} e w =
    let p : x ≡ y = cc in
    let q : n ≡ m = cc in
    rw (← p, ← q) w

string_wrong : {s : List ℕ} {q : Quoted} (x n : ℕ) → Quote s q → string_of q (length s) ≡ Stop x n → Wrong (quote ∷ s) x n
string_wrong x n (closed {x = y} m s z e) h = by_test (λ (p : Piece). p ≡ Stop x n → Wrong (quote ∷ y ++ quote ∷ s) x n) (ltb (string_most + 1) m) long (λ _ f. not_taken f) h
  where
    long : ltb (string_most + 1) m ≡ true → Stop 2 (m + 1) ≡ Stop x n → Wrong (quote ∷ y ++ quote ∷ s) x n
    long t f = alike (ap (Stop 2) (omega (arith, e)) ∙ f) (long_string s z (omega (arith, ltb-true (string_most + 1) m t, e)))
string_wrong x n (spoiled {x = y} m b s z e g) h = alike (ap (Stop 1) (omega (arith, e)) ∙ h) (bad_byte b s z g)
string_wrong x n (misescaped {x = y} m b s z e g) h = alike (ap (Stop 1) (omega (arith, e)) ∙ h) (bad_escape b s z g)
string_wrong x n (unclosed z) h = alike h (unclosed_string z)
string_wrong x n (escaping {x = y} z) h = alike (ap (Stop 1) (omega (arith, length-append y (backslash ∷ []))) ∙ h) (unclosed_escape z)

comment_wrong : (s : List ℕ) (k : Option ℕ) → closing false s ≡ k → (x n : ℕ) → comment_of k (length s) ≡ Stop x n → Wrong (slash ∷ star ∷ s) x n
comment_wrong s (Some m) e x n h = not_skipped h
comment_wrong s None e x n h = alike h (unclosed_comment s ((never_unended s).0 e))

starred : (b : ℕ) (s : List ℕ) (x n : ℕ) → b ≡ slash → get_or s 0 0 ≡ star → comment_of (closing false (drop 1 s)) (length (drop 1 s)) ≡ Stop x n → Wrong (b ∷ s) x n
starred b [] x n p q e = absurd (omega arith)
starred b (a ∷ s) x n p q e = rw (p, q) (comment_wrong s (closing false s) refl x n e)

-- a run that stops the reading: its bytes, and what lies behind
record Run (p : ℕ → Bool) (b : ℕ) (s : List ℕ) : Type 0 where
  more : List ℕ
  rest : List ℕ
  whole : b ∷ s ≡ b ∷ (more ++ rest)
  size : span p (b ∷ s) ≡ length (b ∷ more)
  cut : take (span p (b ∷ s)) (b ∷ s) ≡ b ∷ more
  pass : all p more ≡ true
  stop : p (get_or rest 0 0) ≡ false

run_of : (p : ℕ → Bool) (b : ℕ) (s : List ℕ) → p b ≡ true → p 0 ≡ false → Run p b s
unfolding span
run_of p b s e z =
    let l : length (take (span p s) s) ≡ span p s = length-take-le (span p s) s (span_le p s) in
    record {
      more = take (span p s) s;
      rest = drop (span p s) s;
      whole = ap (b ∷◌) (sym (take-append-drop (span p s) s));
      size = rw e (ap suc (sym l));
      cut = rw e;
      pass = span-all p s;
      stop = span_stops p z s;
    }

letter_word : (b : ℕ) → is_letter b ≡ true → is_word b ≡ true
letter_word b e = rw e (go (is_digit b))
  where
    go : (t : Bool) → either t true ≡ true
    go true = refl
    go false = refl

word_wrong : (b : ℕ) (s : List ℕ) (x n : ℕ) → is_letter b ≡ true → word_of (b ∷ s) (span is_word (b ∷ s)) ≡ Stop x n → Wrong (b ∷ s) x n
word_wrong b s x n l e =
    let r = run_of is_word b s (letter_word b l) refl in
    let h : Wrong (b ∷ (r.more ++ r.rest)) x n =
    by_test (λ (p : Piece). p ≡ Stop x n → Wrong (b ∷ (r.more ++ r.rest)) x n) (ltb word_most (span is_word (b ∷ s)))
    (λ t q. alike (ap (Stop 2) (sym r.size) ∙ q) (long_word b r.more r.rest l r.pass (word_longest b r.more r.rest l r.stop) (omega (arith, ltb-true word_most (span is_word (b ∷ s)) t, r.size))))
    (λ _ q. not_taken q) e in
    subst (λ (y : List ℕ). Wrong y x n) (sym r.whole) h

number_wrong : (b : ℕ) (s : List ℕ) (x n : ℕ) → is_digit b ≡ true → number_of (b ∷ s) (span is_digit (b ∷ s)) ≡ Stop x n → Wrong (b ∷ s) x n
number_wrong b s x n d e =
    let r = run_of is_digit b s d refl in
    let h : Wrong (b ∷ (r.more ++ r.rest)) x n =
    by_test (λ (p : Piece). p ≡ Stop x n → Wrong (b ∷ (r.more ++ r.rest)) x n) (ltb number_most (decimal (take (span is_digit (b ∷ s)) (b ∷ s))))
    (λ t q. alike (ap (Stop 2) (sym r.size) ∙ q)
    (large_number b r.more r.rest d r.pass (number_longest b r.more r.rest d r.stop) (omega (arith, ltb-true number_most (decimal (take (span is_digit (b ∷ s)) (b ∷ s))) t, ap decimal r.cut))))
    (λ _ q. not_taken q) e in
    subst (λ (y : List ℕ). Wrong y x n) (sym r.whole) h

pub stops_wrong : (b : ℕ) (s : List ℕ) (x n : ℕ) → piece_of (b ∷ s) ≡ Stop x n → Wrong (b ∷ s) x n
unfolding piece_of
stops_wrong b s x n =
    let P : Piece → Type 0 = λ p. p ≡ Stop x n → Wrong (b ∷ s) x n in
    by_test P (is_blank b) (λ _ e. not_skipped e)
    (λ l. by_test P (is_letter b) (λ a. word_wrong b s x n a)
    (λ a. by_test P (is_digit b) (λ d. number_wrong b s x n d)
    (λ d. by_test P (eqb b quote) (λ q e. subst (λ (c : ℕ). Wrong (c ∷ s) x n) (sym (eqb-true b quote q)) (string_wrong x n (quote_of s) e))
    (λ q. by_test P (both (eqb b slash) (eqb (get_or s 0 0) star))
    (λ c. let (u, v) = both_true (eqb b slash) (eqb (get_or s 0 0) star) c in starred b s x n (eqb-true b slash u) (eqb-true (get_or s 0 0) star v))
    (λ _. by_test P (eqb (find (b ∷ get_or s 0 0 ∷ []) marks 1) 0)
    (λ _. by_test P (eqb (find (b ∷ []) marks 1) 0) (λ m e. alike e (stray b s l (rw (d, a)) q (eqb-true (find (b ∷ []) marks 1) 0 m))) (λ _ e. not_taken e))
    (λ _ e. not_taken e))))))
