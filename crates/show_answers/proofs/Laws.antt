-- Laws of lines and marks: a line stops at its first line end and starts behind the last one, lines and columns are counted so, a mark for each byte that is shown.
use Prim.Native.Nat.{ℕ, suc, ◌+◌, ◌-◌, ◌≤◌, ◌<◌, min}
use mathlib.Core.Path.{◌≡◌, refl, sym, ap, ◌∙◌}
use mathlib.Core.Bool.{Bool, true, false}
use mathlib.Core.List.{List, [], ◌∷◌, ◌++◌, append_assoc}
use native.Mathlib.Omega.{arith}
use native.Mathlib.Decide.{dec_lt, ℕ_discrete}
use native.Mathlib.Numerals.{add-one}
use native.Mathlib.Nat.{add-zero}
use lib.ListN.{length, get_or, take, drop, replicate, replicate-append-replicate, length-append, length-take, length-drop, drop_of_length-le, get_or-eq_default}
use lib.Seq.{drop-cons, take-suc, take_all, take-length, take-nil, drop-length, drop-append-le}
use lib.Dec.{eqb}
use borrow.Author.Tests.{ne_eqb}
use Rattle.base_bytes.specs.Choice.{pick}
use Rattle.base_bytes.specs.Lists.{piece}
use Rattle.base_kinds.specs.Kinds.{bytes}
use Rattle.base_pens.specs.Pen.{Pen, write, puts}
use Rattle.base_pens.proofs.Pen.{puts-append, then_puts, one-put}
use Rattle.spec_text.specs.Formats.{digits_of}
use Rattle.text_tokens.specs.Lines.{position, behind, position_of}
use Rattle.text_tokens.specs.declared.Position.{Position}
use Rattle.spec_trails.specs.Trails.{verdicts}
use Rattle.spec_account.specs.Bytes.{visible, each_visible}
use Rattle.spec_account.specs.Refused.{first_line, last_line, ends, under, marks, line_before, line_from, refused_at}
use Rattle.show_answers.specs.Parts.{where_text, line_text}

-- ---- the first line
pub stop_there : (s : List ℕ) (k n : ℕ) → k < length s → get_or s k 0 ≡ 10 → k + length (first_line (drop k s)) ≡ n → k ≡ n
unfolding first_line
stop_there s k n h e g = sym (add-zero k) ∙ sym (ap (λ l. k + length (first_line l)) (drop-cons s k 0 h) ∙ rw e refl) ∙ g

pub stop_later : (s : List ℕ) (k n : ℕ) → k < length s → (get_or s k 0 ≡ 10 → ⊥) → k + length (first_line (drop k s)) ≡ n → k + 1 + length (first_line (drop (k + 1) s)) ≡ n
unfolding first_line
stop_later s k n h e g =
    let q : length (first_line (drop k s)) ≡ suc (length (first_line (drop (k + 1) s))) = ap (λ l. length (first_line l)) (drop-cons s k 0 h) ∙ rw (ne_eqb (get_or s k 0) 10 e, add-one) refl in
    omega (arith, q, g)

pub stop_end : (s : List ℕ) (k n : ℕ) → length s ≤ k → k + length (first_line (drop k s)) ≡ n → k ≡ n
unfolding first_line
stop_end s k n h g = sym (add-zero k) ∙ sym (ap (λ l. k + length (first_line l)) (drop_of_length-le s h)) ∙ g

front_of_lem : (s : List ℕ) → first_line s ≡ take (length (first_line s)) s
unfolding first_line
front_of_lem [] = refl
front_of_lem (b ∷ s) = by (eqb b 10) (front_of_lem s)
  where
    by : (p : Bool) → first_line s ≡ take (length (first_line s)) s → pick p [] (b ∷ first_line s) ≡ take (length (pick p [] (b ∷ first_line s))) (b ∷ s)
    by true e = refl
    by false e = ap (b ∷◌) e

-- a part from the front, and a part to the end
clip : (s : List ℕ) (n : ℕ) → take (min n (length s)) s ≡ take n s
clip s n = by (dec_lt n (length s))
  where
    by : Dec (n < length s) → take (min n (length s)) s ≡ take n s
    by (yes h) = let e : min n (length s) ≡ n = omega arith in rw e
    by (no h) = let e : min n (length s) ≡ length s = omega arith in rw e (take-length s ∙ sym (take_all n s (omega arith)))

pub piece-front : (s : List ℕ) (n : ℕ) → piece s 0 n ≡ take n s
piece-front s n = let a : min n (length s) - min 0 (min n (length s)) ≡ min n (length s) = omega arith in let b : min 0 (min n (length s)) ≡ 0 = omega arith in rw (a, b) (clip s n)

pub piece_back : (s : List ℕ) (i : ℕ) → piece s i (length s) ≡ drop i s
piece_back s i = by (dec_lt i (length s))
  where
    by : Dec (i < length s) → piece s i (length s) ≡ drop i s
    by (yes h) = let a : min i (min (length s) (length s)) ≡ i = omega arith in let b : min (length s) (length s) ≡ length s = omega arith in rw (a, b) (take_all (length s - i) (drop i s) (omega (arith, length-drop i s)))
    by (no h) =
        let a : min i (min (length s) (length s)) ≡ length s = omega arith in
        let b : min (length s) (length s) ≡ length s = omega arith in
        rw (a, b, drop-length s, drop_of_length-le s {i = i} (omega arith)) (take-nil (length s - length s))

pub first-line : (s : List ℕ) (n : ℕ) → n ≡ length (first_line s) → piece s 0 n ≡ first_line s
first-line s n e = piece-front s n ∙ rw e (sym (front_of_lem s))

-- ---- the last line
module _ (s : List ℕ) (k : ℕ) (h : k < length s) (from : ℕ) (g : last_line [] s ≡ last_line (drop from (take k s)) (drop k s)) where
  opened : last_line [] s ≡ last_line (drop from (take k s)) (get_or s k 0 ∷ drop (k + 1) s)
  opened = g ∙ ap (last_line (drop from (take k s))) (drop-cons s k 0 h ∙ ap (λ n. get_or s k 0 ∷ drop n s) (sym (add-one k)))

  start_there : get_or s k 0 ≡ 10 → last_line [] s ≡ last_line (drop (k + 1) (take (k + 1) s)) (drop (k + 1) s)
  unfolding last_line
  start_there e = opened ∙ rw (e, drop_of_length-le (take (k + 1) s) {i = k + 1} (omega (arith, length-take (k + 1) s))) refl

  start-before : from ≤ k → (get_or s k 0 ≡ 10 → ⊥) → last_line [] s ≡ last_line (drop from (take (k + 1) s)) (drop (k + 1) s)
  unfolding last_line
  start-before l e =
      let q : drop from (take (k + 1) s) ≡ drop from (take k s) ++ get_or s k 0 ∷ [] = ap (drop from) (ap (λ n. take n s) (add-one k) ∙ take-suc s k 0 h) ∙ drop-append-le from (take k s) (get_or s k 0 ∷ []) (omega (arith, length-take k s)) in
      opened ∙ rw (ne_eqb (get_or s k 0) 10 e, q) refl

  pub start-next : (r : ℕ) → from ≤ k → r ≡ pick (eqb (get_or s k 0) 10) (k + 1) from → (r ≤ k + 1) × (last_line [] s ≡ last_line (drop r (take (k + 1) s)) (drop (k + 1) s))
  start-next r l q = by (ℕ_discrete (get_or s k 0) 10)
    where
      by : Dec (get_or s k 0 ≡ 10) → (r ≤ k + 1) × (last_line [] s ≡ last_line (drop r (take (k + 1) s)) (drop (k + 1) s))
      by (yes e) = let z : r ≡ k + 1 = q ∙ rw e refl in (omega arith, rw z (start_there e))
      by (no e) = let z : r ≡ from = q ∙ rw (ne_eqb (get_or s k 0) 10 e) refl in (omega arith, rw z (start-before l e))

pub start_end : (s : List ℕ) (k from : ℕ) → length s ≤ k → last_line [] s ≡ last_line (drop from (take k s)) (drop k s) → last_line [] s ≡ drop from s
unfolding last_line
start_end s k from h g = g ∙ rw (drop_of_length-le s {i = k} h, take_all k s h) refl

pub last_line_lem : (s : List ℕ) (n : ℕ) → last_line [] s ≡ drop n s → piece s n (length s) ≡ last_line [] s
last_line_lem s n e = piece_back s n ∙ sym e

-- ---- lines and columns
counted : (n : ℕ) (line l : List ℕ) → behind n (length line + 1) l ≡ position (n + ends l) (length (last_line line l) + 1)
unfolding behind ends last_line
counted n line [] = ap (λ k. position k (length line + 1)) (sym (add-zero n))
counted n line (b ∷ l) = by (eqb b 10) (counted (n + 1) [] l) (counted n (line ++ b ∷ []) l)
  where
    by : (p : Bool) → behind (n + 1) 1 l ≡ position (n + 1 + ends l) (length (last_line [] l) + 1) → behind n (length (line ++ b ∷ []) + 1) l ≡ position (n + ends l) (length (last_line (line ++ b ∷ []) l) + 1)
        → pick p (behind (n + 1) 1 l) (behind n (length line + 1 + 1) l) ≡ position (n + pick p (ends l + 1) (ends l)) (length (pick p (last_line [] l) (last_line (line ++ b ∷ []) l)) + 1)
    by true e f = let q : n + 1 + ends l ≡ n + (ends l + 1) = omega arith in e ∙ ap (λ k. position k (length (last_line [] l) + 1)) q
    by false e f = ap (λ k. behind n (k + 1) l) (sym (length-append line (b ∷ []))) ∙ f

pub located_is : (l : List ℕ) → position_of l (length l) ≡ position (ends l + 1) (length (last_line [] l) + 1)
located_is l = let q : 1 + ends l ≡ ends l + 1 = omega arith in ap (behind 1 1) (take-length l) ∙ counted 1 [] l ∙ ap (λ k. position k (length (last_line [] l) + 1)) q

-- ---- one pen behind the other
pub under_more : (s : List ℕ) (k mark n : ℕ) (w x : Pen) → k < length s → n ≡ length (visible (get_or s k 0)) → x ≡ puts (replicate n mark) w → puts (under mark (drop (k + 1) s)) x ≡ puts (under mark (drop k s)) w
unfolding each_visible
under_more s k mark n w x h e g =
    let r = each_visible (drop (suc k) s) in
    let v = visible (get_or s k 0) in
    rw (drop-cons s k 0 h, add-one) (ap (puts (replicate (length r) mark)) (g ∙ ap (λ n. puts (replicate n mark) w) e) ∙ sym (puts-append (replicate (length v) mark) (replicate (length r) mark) w)
    ∙ ap (λ z. puts z w) (replicate-append-replicate (length v) (length r) mark ∙ ap (λ n. replicate n mark) (sym (length-append v r))))

pub under_end : (s : List ℕ) (k mark : ℕ) (w : Pen) → length s ≤ k → puts (under mark (drop k s)) w ≡ w
unfolding each_visible puts
under_end s k mark w h = rw (drop_of_length-le s {i = k} h) refl

pub mark-none : (s : List ℕ) (w x : Pen) → length s ≡ 0 → x ≡ puts (94 ∷ []) w → x ≡ puts (marks s) w
mark-none [] w x h e = e
mark-none (b ∷ s) w x h e = absurd (omega arith)

pub mark-some : (s : List ℕ) (w x : Pen) → (length s ≡ 0 → ⊥) → x ≡ puts (under 94 s) w → x ≡ puts (marks s) w
mark-some [] w x h e = absurd (h refl)
mark-some (b ∷ s) w x h e = e

-- ---- the whole
visible-append : (x y : List ℕ) → each_visible (x ++ y) ≡ each_visible x ++ each_visible y
unfolding each_visible
visible-append [] y = refl
visible-append (b ∷ x) y = rw (visible-append x y) (sym (append_assoc (visible b) (each_visible x) (each_visible y)))

parts_nested : (a b c d e f g r : List ℕ) → (a ++ (b ++ (c ++ d))) ++ ((e ++ (f ++ (g ++ e))) ++ r) ≡ a ++ (b ++ (c ++ (d ++ (e ++ ((f ++ g) ++ (e ++ r))))))
parts_nested a b c d e f g r = simp append_assoc

pub refused_put : (t : List ℕ) (i n : ℕ) (w a b c d e : Pen) (front before from part : List ℕ) → front ≡ take i t → before ≡ last_line [] front → from ≡ first_line (drop i t) → part ≡ take n from
    → a ≡ puts (where_text front) w → b ≡ puts (line_text before from) a → c ≡ puts (under 32 before) b → d ≡ puts (marks part) c → e ≡ write 10 d → e ≡ puts (refused_at t i n) w
unfolding refused_at
refused_put t i n w a b c d e front before from part ef eb em ep ha hb hc hd he =
    then_puts (where_text front) (line_text before from ++ (under 32 before ++ (marks part ++ 10 ∷ []))) w a e ha
    (then_puts (line_text before from) (under 32 before ++ (marks part ++ 10 ∷ [])) a b e hb (then_puts (under 32 before) (marks part ++ 10 ∷ []) b c e hc (then_puts (marks part) (10 ∷ []) c d e hd (one-put 10 d e he))))
    ∙ ap (λ z. puts z w) (rw (ep, eb, em, ef)
    (parts_nested (bytes "  line ") (digits_of (ends (take i t) + 1)) (bytes " column ") (digits_of (length (line_before t i) + 1)) (bytes "\n  ") (each_visible (line_before t i)) (each_visible (line_from t i)) (under 32 (line_before t i) ++ (marks (take n (line_from t i)) ++ 10 ∷ []))
    ∙ ap (λ z. bytes "  line " ++ (digits_of (ends (take i t) + 1) ++ (bytes " column " ++ (digits_of (length (line_before t i) + 1) ++ (bytes "\n  " ++ (z ++ (bytes "\n  " ++ (under 32 (line_before t i) ++ (marks (take n (line_from t i)) ++ 10 ∷ []))))))))) (sym (visible-append (line_before t i) (line_from t i)))))

pub where_put : (l : List ℕ) (line column : ℕ) (w a b c d : Pen) → position line column ≡ position_of l (length l) → a ≡ puts (bytes "  line ") w → b ≡ puts (digits_of line) a → c ≡ puts (bytes " column ") b → d ≡ puts (digits_of column) c
    → d ≡ puts (where_text l) w
where_put l line column w a b c d e ha hb hc hd =
    let f : line ≡ ends l + 1 = ap Position.line (e ∙ located_is l) in
    let g : column ≡ length (last_line [] l) + 1 = ap Position.column (e ∙ located_is l) in
    then_puts (bytes "  line ") _ w a d ha (then_puts (digits_of (ends l + 1)) _ a b d (hb ∙ ap (λ n. puts (digits_of n) a) f) (then_puts (bytes " column ") _ b c d hc (hd ∙ ap (λ n. puts (digits_of n) c) g)))

-- the word of a verdict
pub verdict-put : (v n : ℕ) (w x : Pen) → v ≡ n → x ≡ puts (get_or verdicts (n - 1) []) w → x ≡ puts (get_or verdicts (v - 1) []) w
verdict-put v n w x e h = rw e h

pub verdict-none : (v : ℕ) (w : Pen) → 5 < v → w ≡ puts (get_or verdicts (v - 1) []) w
unfolding puts
verdict-none v w h = sym (ap (λ l. puts l w) (get_or-eq_default verdicts [] {n = v - 1} (omega arith)))
