-- "THE LONGEST TOKEN WINS": that no longer beginning has the form of a token is one test of the next byte, kind by kind.
use mathlib.Core.Path.{◌≡◌, refl, sym, ap, ◌∙◌}
use mathlib.Core.Bool.{Bool, true, false, not}
use mathlib.Core.List.{List, [], ◌∷◌, ◌++◌, append_assoc}
use Prim.Native.Nat.{ℕ, zero, suc, ◌+◌, ◌<◌}
use native.Mathlib.Omega.{arith}
use borrow.Author.Tests.{lt-ltb, ltb-true, ltb-false, eq-eqb, eqb-true, not-true}
use lib.Dec.{eqb, ltb}
use lib.ListN.{length, get_or, length-append}
use Rattle.base_bytes.specs.Choice.{both, either}
use Rattle.base_bytes.specs.Lists.{same}
use Rattle.base_bytes.proofs.Tests.{true_false, both_true}
use Rattle.base_bytes.proofs.Lists.{same_eq}
use Rattle.base_kinds.specs.Kinds.{marks}
use Rattle.spec_text.specs.Find.{find}
use Rattle.spec_text.specs.Bytes.{is_blank, is_letter, is_digit, is_word, quote, slash, star}
use Rattle.text_pieces.specs.Spans.{quoted}
use Rattle.text_pieces.specs.declared.Quoted.TheVariants.{Closed}
use Rattle.spec_text.specs.Spelled.{all, Between, Spelled, word, digits, string, mark, Formed, a_word, a_number, a_string, a_mark, an_opening, Longest, mark_joins, joins}
use Rattle.text_spacing_proof.proofs.Classes.{digit_letter}
use Rattle.text_spacing_proof.proofs.Spans.{quoted-whole}
use Rattle.text_spacing_proof.proofs.Fronts.{joins-word, joins-mark, fronts, markish, mark-passes, spelled-some}
use Rattle.text_spacing_proof.proofs.Tokens.{joins_end}

-- ---- tests of a whole list
all_more : (p : ℕ → Bool) (s : List ℕ) (c : ℕ) → all p s ≡ true → p c ≡ true → all p (s ++ c ∷ []) ≡ true
unfolding all
all_more p [] c a e = rw e
all_more p (b ∷ s) c a e = let (f, g) = both_true (p b) (all p s) a in rw (f, all_more p s c g e)

all_at : (p : ℕ → Bool) (s : List ℕ) (c : ℕ) (y : List ℕ) → all p (s ++ c ∷ y) ≡ true → p c ≡ true
unfolding all
all_at p [] c y a = (both_true (p c) (all p y) a).0
all_at p (b ∷ s) c y a = all_at p s c y (both_true (p b) (all p (s ++ c ∷ y)) a).1

-- ---- the first byte tells the forms apart
record Front (a : ℕ) : Type 0 where
  letter : is_letter a ≡ false
  digit : is_digit a ≡ false
  no_quote : eqb a quote ≡ false

front : (a : ℕ) → fronts a ≡ true → Front a
unfolding fronts
front a e =
    let (p, q) = both_true (not (is_blank a)) (both (not (is_letter a)) (both (not (is_digit a)) (not (eqb a quote)))) e in
    let (r, t) = both_true (not (is_letter a)) (both (not (is_digit a)) (not (eqb a quote))) q in
    let (u, v) = both_true (not (is_digit a)) (not (eqb a quote)) t in
    record { letter = not-true (is_letter a) r; digit = not-true (is_digit a) u; no_quote = not-true (eqb a quote) v }

mark-begins : (a : ℕ) (x : List ℕ) → markish (a ∷ x) ≡ true → Front a
unfolding markish
mark-begins a [] m = front a m
mark-begins a (c ∷ []) m = front a (both_true (fronts a) (not (both (eqb a slash) (eqb c star))) m).0
mark-begins a (c ∷ d ∷ x) m = absurd (true_false (sym m))

-- a mark with a byte behind it, and more, is a mark of that byte alone
mark-two : (a : ℕ) (x : List ℕ) (c : ℕ) (y : List ℕ) → markish (a ∷ x ++ c ∷ y) ≡ true → (x ≡ []) × (y ≡ [])
unfolding markish
mark-two a [] c [] m = (refl, refl)
mark-two a [] c (d ∷ y) m = absurd (true_false (sym m))
mark-two a (b ∷ []) c y m = absurd (true_false (sym m))
mark-two a (b ∷ d ∷ x) c y m = absurd (true_false (sym m))

no_mark_empty : markish [] ≡ false
unfolding markish
no_mark_empty = refl

opened : mark_joins (slash ∷ []) star ≡ true
unfolding same find
opened = refl

-- ---- a longer form is told by the next byte
module _ (c : ℕ) (y : List ℕ) where
  longer-word : (b : ℕ) (s w : List ℕ) → is_letter b ≡ true → Formed w → w ≡ b ∷ (s ++ c ∷ y) → is_word c ≡ true
  longer-word b s _ l (a_word {s = s'} k a) e = let q : s' ≡ s ++ c ∷ y = cc in all_at is_word s c y (rw q at a)
  longer-word b s _ l (a_number {b = b'} d a) e = let q : b' ≡ b = cc in absurd (true_false (sym l ∙ digit_letter b (rw q at d)))
  longer-word b s _ l (a_string z) e = let q : quote ≡ b = cc in absurd (true_false (sym l ∙ ap is_letter (sym q)))
  longer-word b s w l (a_mark {k = k} f) e = absurd (true_false (sym l ∙ (mark-begins b (s ++ c ∷ y) (ap markish (sym e) ∙ mark-passes w k f)).letter))
  longer-word b s _ l an_opening e = let q : slash ≡ b = cc in absurd (true_false (sym l ∙ ap is_letter (sym q)))

  longer-number : (b : ℕ) (s w : List ℕ) → is_digit b ≡ true → Formed w → w ≡ b ∷ (s ++ c ∷ y) → is_digit c ≡ true
  longer-number b s _ l (a_word {b = b'} k a) e = let q : b' ≡ b = cc in absurd (true_false (sym k ∙ ap is_letter q ∙ digit_letter b l))
  longer-number b s _ l (a_number {s = s'} d a) e = let q : s' ≡ s ++ c ∷ y = cc in all_at is_digit s c y (rw q at a)
  longer-number b s _ l (a_string z) e = let q : quote ≡ b = cc in absurd (true_false (sym l ∙ ap is_digit (sym q)))
  longer-number b s w l (a_mark {k = k} f) e = absurd (true_false (sym l ∙ (mark-begins b (s ++ c ∷ y) (ap markish (sym e) ∙ mark-passes w k f)).digit))
  longer-number b s _ l an_opening e = let q : slash ≡ b = cc in absurd (true_false (sym l ∙ ap is_digit (sym q)))

  -- a string ends at its quote
  no_longer_string : (s w : List ℕ) → Between s → Formed w → w ≡ quote ∷ (s ++ quote ∷ c ∷ y) → ⊥
  no_longer_string s _ z (a_word {b = b} k a) e = let q : b ≡ quote = cc in true_false (sym k ∙ ap is_letter q)
  no_longer_string s _ z (a_number {b = b} d a) e = let q : b ≡ quote = cc in true_false (sym d ∙ ap is_digit q)
  no_longer_string s _ z (a_string {s = s'} v) e =
      let q : s' ++ quote ∷ [] ≡ s ++ quote ∷ c ∷ y = cc in
      let r : Closed (length s' + 1) ≡ Closed (length s + 1) = sym (quoted-whole [] v) ∙ ap (quoted false) q ∙ quoted-whole (c ∷ y) z in
      let n : length s' + 1 ≡ length s + 1 = cc in
      omega (arith, ap length q, length-append s' (quote ∷ []), length-append s (quote ∷ c ∷ y))
  no_longer_string s w z (a_mark {k = k} f) e = true_false (mark-begins quote (s ++ quote ∷ c ∷ y) (ap markish (sym e) ∙ mark-passes w k f)).no_quote
  no_longer_string s _ z an_opening e = let q : slash ≡ quote = cc in omega arith

  longer-mark : (x w : List ℕ) → markish x ≡ true → Formed w → w ≡ x ++ c ∷ y → mark_joins x c ≡ true
  longer-mark [] w m f e = absurd (true_false (sym m ∙ no_mark_empty))
  longer-mark (a ∷ x) _ m (a_word {b = b} k g) e = let q : b ≡ a = cc in absurd (true_false (sym k ∙ ap is_letter q ∙ (mark-begins a x m).letter))
  longer-mark (a ∷ x) _ m (a_number {b = b} d g) e = let q : b ≡ a = cc in absurd (true_false (sym d ∙ ap is_digit q ∙ (mark-begins a x m).digit))
  longer-mark (a ∷ x) _ m (a_string z) e = let q : quote ≡ a = cc in absurd (true_false (sym (eq-eqb a quote (sym q)) ∙ (mark-begins a x m).no_quote))
  longer-mark (a ∷ x) w m (a_mark {k = k} f) e =
      let (p, q) = mark-two a x c y (ap markish (sym e) ∙ mark-passes w k f) in
      let z : find (a ∷ c ∷ []) marks 1 ≡ suc k = ap (λ v. find v marks 1) (sym (e ∙ rw (p, q) refl)) ∙ f in
      rw (p, z, lt-ltb 0 (suc k) (omega arith)) refl
  longer-mark (a ∷ []) _ m an_opening e =
      let p : slash ≡ a = cc in
      let q : star ≡ c = cc in
      rw (← p, ← q) opened
  longer-mark (a ∷ b ∷ x) _ m an_opening e = absurd (omega (arith, ap length e, length-append x (c ∷ y)))

  longer-joins : {k : ℕ} {x : List ℕ} → Spelled k x → Formed (x ++ c ∷ y) → joins k x c ≡ true
  longer-joins (word {b = b} {s = s} l a h) f = joins-word (b ∷ s) (b ∷ s) c ∙ longer-word b s (b ∷ (s ++ c ∷ y)) l f refl
  longer-joins (digits {b = b} {s = s} d a h) f = longer-number b s (b ∷ (s ++ c ∷ y)) d f refl
  longer-joins (string {s = s} z h) f = absurd (no_longer_string s (quote ∷ ((s ++ quote ∷ []) ++ c ∷ y)) z f (ap (quote ∷◌) (append_assoc s (quote ∷ []) (c ∷ y))))
  longer-joins (mark {k = k} {x = x} e) f = joins-mark k x c e ∙ longer-mark x (x ++ c ∷ y) (mark-passes x k e) f refl

-- ---- BOTH WAYS
pub joins_longest : {k : ℕ} {x : List ℕ} → Spelled k x → (s : List ℕ) → joins k x (get_or s 0 0) ≡ false → Longest x s
joins_longest z s j [] v e h f = absurd (omega arith)
joins_longest {k} {x} z s j (c ∷ y) v e h f = true_false (sym (longer-joins c y z f) ∙ ap (λ t. joins k x (get_or t 0 0)) (sym e) ∙ j)

formed : {k : ℕ} {x : List ℕ} → Spelled k x → (c : ℕ) → joins k x c ≡ true → Formed (x ++ c ∷ [])
formed (word {b = b} {s = s} l a h) c j = a_word l (all_more is_word s c a (sym (joins-word (b ∷ s) (b ∷ s) c) ∙ j))
formed (digits {s = s} d a h) c j = a_number d (all_more is_digit s c a j)
formed (string z h) c j = absurd (true_false (sym j))
formed (mark {k = k} {x = x} e) c j = go (ltb 0 (find (x ++ c ∷ []) marks 1)) refl (both (same x (slash ∷ [])) (eqb c star)) refl (sym (joins-mark k x c e) ∙ j)
  where
    go : (a : Bool) → ltb 0 (find (x ++ c ∷ []) marks 1) ≡ a → (b : Bool) → both (same x (slash ∷ [])) (eqb c star) ≡ b → either (ltb 0 (find (x ++ c ∷ []) marks 1)) (both (same x (slash ∷ [])) (eqb c star)) ≡ true
        → Formed (x ++ c ∷ [])
    go true p b q r = found (find (x ++ c ∷ []) marks 1) refl (ltb-true 0 (find (x ++ c ∷ []) marks 1) p)
      where
        found : (n : ℕ) → find (x ++ c ∷ []) marks 1 ≡ n → 0 < n → Formed (x ++ c ∷ [])
        found zero w h = absurd (omega arith)
        found (suc n) w h = a_mark w
    go false p true q r =
        let (u, v) = both_true (same x (slash ∷ [])) (eqb c star) q in
        rw (same_eq x (slash ∷ []) u, eqb-true c star v) an_opening
    go false p false q r = absurd (true_false (sym r ∙ rw (p, q) refl))

pub longest_joins : {k : ℕ} {x : List ℕ} → Spelled k x → (s : List ℕ) → Longest x s → joins k x (get_or s 0 0) ≡ false
longest_joins z [] l = joins_end z
longest_joins {k} {x} z (c ∷ s) l = go (joins k x c) refl
  where
    go : (b : Bool) → joins k x c ≡ b → joins k x c ≡ false
    go true j = absurd (l (c ∷ []) s refl (omega arith) (formed z c j))
    go false j = j

-- ---- words and numbers of any length
pub word_longest : (b : ℕ) (x s : List ℕ) → is_letter b ≡ true → is_word (get_or s 0 0) ≡ false → Longest (b ∷ x) s
word_longest b x s l j [] v e h f = absurd (omega arith)
word_longest b x s l j (c ∷ y) v e h f = true_false (sym (longer-word c y b x (b ∷ (x ++ c ∷ y)) l f refl) ∙ ap (λ t. is_word (get_or t 0 0)) (sym e) ∙ j)

pub longest_word : (b : ℕ) (x s : List ℕ) → is_letter b ≡ true → all is_word x ≡ true → Longest (b ∷ x) s → is_word (get_or s 0 0) ≡ false
longest_word b x [] l a m = refl
longest_word b x (c ∷ s) l a m = go (is_word c) refl
  where
    go : (t : Bool) → is_word c ≡ t → is_word c ≡ false
    go true j = absurd (m (c ∷ []) s refl (omega arith) (a_word l (all_more is_word x c a j)))
    go false j = j

pub number_longest : (b : ℕ) (x s : List ℕ) → is_digit b ≡ true → is_digit (get_or s 0 0) ≡ false → Longest (b ∷ x) s
number_longest b x s l j [] v e h f = absurd (omega arith)
number_longest b x s l j (c ∷ y) v e h f = true_false (sym (longer-number c y b x (b ∷ (x ++ c ∷ y)) l f refl) ∙ ap (λ t. is_digit (get_or t 0 0)) (sym e) ∙ j)

pub longest_number : (b : ℕ) (x s : List ℕ) → is_digit b ≡ true → all is_digit x ≡ true → Longest (b ∷ x) s → is_digit (get_or s 0 0) ≡ false
longest_number b x [] l a m = refl
longest_number b x (c ∷ s) l a m = go (is_digit c) refl
  where
    go : (t : Bool) → is_digit c ≡ t → is_digit c ≡ false
    go true j = absurd (m (c ∷ []) s refl (omega arith) (a_number l (all_more is_digit x c a j)))
    go false j = j
