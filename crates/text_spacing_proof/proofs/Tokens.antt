-- Bytes of a kind as a token, and back: a token's bytes are spelled, are no more than those that it came from, and join just what those would.
use mathlib.Core.Path.{◌≡◌, refl, sym, ap, ◌∙◌, subst}
use mathlib.Core.Bool.{Bool, true, false, not}
use mathlib.Core.List.{List, [], ◌∷◌, ◌++◌}
use Prim.Native.Nat.{ℕ, zero, suc, ◌+◌, ◌-◌, ◌≤◌, ◌<◌}
use native.Mathlib.Omega.{arith}
use native.Mathlib.Decide.{ℕ_discrete}
use borrow.Author.Tests.{eq-eqb, ne_eqb, lt-ltb, le-ltb, eqb-true}
use lib.Dec.{eqb, ltb}
use lib.ListN.{length, get_or, take, drop, length-append, get_or-append}
use lib.Seq.{take-append_seam, take_at, get_or-append-add}
use Rattle.base_bytes.specs.Choice.{pick, both, either}
use Rattle.base_bytes.specs.Lists.{same}
use Rattle.base_bytes.proofs.Tests.{both_no, both_true, true_false}
use Rattle.base_kinds.specs.Kinds.{marks, keywords, Token, sym as symbol, name, number, text, kind_of, name_kind, number_kind, string_kind}
use Rattle.spec_text.specs.Find.{find, keyword_of, word_kind}
use Rattle.text_spellings.proofs.Laws.{two-one}
use Rattle.spec_text.specs.Bytes.{is_digit, is_letter, is_word, quote, slash, star}
use Rattle.spec_text.specs.Digits.{decimal}
use Rattle.spec_text.specs.Spelled.{all, Spelled, word, digits, string, mark, mark_joins, joins}
use Rattle.spec_text.specs.Writing.{spell, token_of}
use Rattle.text_spacing_proof.specs.Sound.{Sound}
use Rattle.spec_text.specs.Formats.{digits_of}
use Rattle.text_spacing_proof.proofs.Classes.{digit_range}
use Rattle.text_spacing_proof.proofs.Tables.{mark_range, word_range, keyword_below, every, fails_unfound, found_at}
use Rattle.text_spacing_proof.proofs.Fronts.{joins-word, joins-mark, markish, mark-passes, short, spelled-some}
use Rattle.text_spacing_proof.proofs.Digits.{digits-write, digits-spelled, digits_fewest}

-- ---- bytes that join no mark
-- no second byte of a mark passes q
abbrev apart_from : (ℕ → Bool) → List ℕ → Bool
apart_from q [] = true
apart_from q (a ∷ []) = true
apart_from q (a ∷ d ∷ []) = not (q d)
apart_from q (a ∷ d ∷ e ∷ x) = true

mark-alone : (q : ℕ → Bool) → every (apart_from q) marks ≡ true → (c : ℕ) → q c ≡ true → eqb c star ≡ false → (x : List ℕ) → markish x ≡ true → mark_joins x c ≡ false
unfolding markish short
mark-alone q t c e s [] m = absurd (true_false (sym m))
mark-alone q t c e s (a ∷ []) m = rw (fails_unfound (apart_from q) (a ∷ c ∷ []) marks 1 t (ap not e), s) (both_no (same (a ∷ []) (slash ∷ [])) refl)
mark-alone q t c e s (a ∷ b ∷ []) m = rw (fails_unfound short (a ∷ b ∷ c ∷ []) marks 1 refl refl, s) (both_no (same (a ∷ b ∷ []) (slash ∷ [])) refl)
mark-alone q t c e s (a ∷ b ∷ d ∷ x) m = absurd (true_false (sym m))

-- a byte that begins no word and no number, and joins no mark, joins nothing
joins-nothing : (q : ℕ → Bool) → every (apart_from q) marks ≡ true → (c : ℕ) → q c ≡ true → eqb c star ≡ false → is_word c ≡ false → is_digit c ≡ false → {k : ℕ} {x : List ℕ} → Spelled k x → joins k x c ≡ false
joins-nothing q t c e s w d (word {b = b} {s = y} _ _ _) = joins-word (b ∷ y) (b ∷ y) c ∙ w
joins-nothing q t c e s w d (digits _ _ _) = d
joins-nothing q t c e s w d (string _ _) = refl
joins-nothing q t c e s w d (mark {k = k} {x = x} f) = joins-mark k x c f ∙ mark-alone q t c e s x (mark-passes x k f)

pub joins_space : {k : ℕ} {x : List ℕ} → Spelled k x → joins k x 32 ≡ false
joins_space z = joins-nothing (eqb 32) refl 32 refl refl refl refl z

pub joins-line : {k : ℕ} {x : List ℕ} → Spelled k x → joins k x 10 ≡ false
joins-line z = joins-nothing (eqb 10) refl 10 refl refl refl refl z

pub joins_end : {k : ℕ} {x : List ℕ} → Spelled k x → joins k x 0 ≡ false
joins_end z = joins-nothing (eqb 0) refl 0 refl refl refl refl z

-- all digits join alike
joins-digits : {k : ℕ} {x : List ℕ} → Spelled k x → (c d : ℕ) → is_digit c ≡ true → is_digit d ≡ true → joins k x c ≡ joins k x d
joins-digits (word {b = b} {s = y} _ _ _) c d p q = joins-word (b ∷ y) (b ∷ y) c ∙ ((rw (p, q)) ∙ sym (joins-word (b ∷ y) (b ∷ y) d))
joins-digits (digits _ _ _) c d p q = p ∙ sym q
joins-digits (string _ _) c d p q = refl
joins-digits (mark {k = k} {x = x} f) c d p q = none c p ∙ sym (none d q)
  where
    none : (c : ℕ) → is_digit c ≡ true → joins (suc k) x c ≡ false
    none c e = joins-mark k x c f ∙ mark-alone is_digit refl c e (ne_eqb c star (λ z. omega (arith, (digit_range c e).0))) x (mark-passes x k f)

-- ---- the token of bytes
is_symbol : (k : ℕ) (x : List ℕ) → k < 70 → token_of k x ≡ symbol k
is_symbol k x h = rw (ne_eqb k 70 (λ e. omega arith), ne_eqb k 71 (λ e. omega arith), ne_eqb k 72 (λ e. omega arith))

spell-mark : (x : List ℕ) (k : ℕ) → find x marks 1 ≡ suc k → spell (symbol (suc k)) ≡ x
spell-mark x k e =
    get_or-append marks keywords [] (suc k - 1) (omega (arith, mark_range x k e))
    ∙ found_at x marks 1 (suc k) e (λ z. omega arith)

spell_keyword : (w : List ℕ) → (keyword_of w ≡ 0 → ⊥) → spell (symbol (keyword_of w)) ≡ w
spell_keyword w h =
    let r = word_range w in
    let k : word_kind w ≡ keyword_of w = rw (ne_eqb (keyword_of w) 0 h) in
    let i : keyword_of w - 1 ≡ 37 + (keyword_of w - 38) = omega (arith, r.0) in
    rw i (get_or-append-add marks keywords (keyword_of w - 38) [] ∙ found_at w keywords 38 (keyword_of w) refl h)

-- what a token keeps of the bytes x of kind k that it came from
pub record Kept (k : ℕ) (x : List ℕ) : Type 0 where
  pub kind : kind_of (token_of k x) ≡ k
  pub sound : Sound (token_of k x)
  pub fewest : length (spell (token_of k x)) ≤ length x
  pub joins_same : (c : ℕ) → joins k (spell (token_of k x)) c ≡ joins k x c
  pub head_same : (j : ℕ) (y : List ℕ) → Spelled j y → joins j y (get_or (spell (token_of k x)) 0 0) ≡ joins j y (get_or x 0 0)

-- a token with the very bytes
kept_as : (k : ℕ) (x : List ℕ) (a : Token) → token_of k x ≡ a → kind_of a ≡ k → Sound a → spell a ≡ x → Kept k x
kept_as k x a e q z s =
    let t : spell (token_of k x) ≡ x = ap spell e ∙ s in
    record {
      kind = ap kind_of e ∙ q;
      sound = rw e z;
      fewest = rw t (omega arith);
      joins_same = λ c. rw t;
      head_same = λ j y _. rw t;
    }

kept_word : (w : List ℕ) → Spelled (word_kind w) w → Kept (word_kind w) w
kept_word w z = go (ℕ_discrete (keyword_of w) 0)
  where
    go : Dec (keyword_of w ≡ 0) → Kept (word_kind w) w
    go (yes e) =
        let k : word_kind w ≡ 70 = rw (eq-eqb (keyword_of w) 0 e) in
        rw k (kept_as 70 w (name w) refl refl (rw k at z) refl)
    go (no h) =
        let k : word_kind w ≡ keyword_of w = rw (ne_eqb (keyword_of w) 0 h) in
        let r : keyword_of w < 70 = keyword_below w in
        rw k (kept_as (keyword_of w) w (symbol (keyword_of w)) (is_symbol (keyword_of w) w r) refl (rw (spell_keyword w h) (rw k at z)) (spell_keyword w h))

inner : (s : List ℕ) → take (length (quote ∷ s ++ quote ∷ []) - 2) (drop 1 (quote ∷ s ++ quote ∷ [])) ≡ s
inner s = take_at s (quote ∷ []) (suc (length (s ++ quote ∷ [])) - 2) (omega (arith, length-append s (quote ∷ [])))

digit-first : (x : List ℕ) → Spelled 71 x → is_digit (get_or x 0 0) ≡ true
digit-first x z = go 71 x z refl
  where
    go : (k : ℕ) (x : List ℕ) → Spelled k x → k ≡ 71 → is_digit (get_or x 0 0) ≡ true
    go k x (digits d a h) e = d
    go k x (string b h) e = absurd (omega arith)
    go k x (word {b = b} {s = s} l a h) e = absurd (omega (arith, (word_range (b ∷ s)).1))
    go k x (mark {k = j} f) e = absurd (omega (arith, mark_range x j f))

pub kept : {k : ℕ} {x : List ℕ} → Spelled k x → Kept k x
unfolding all
kept (word {b = b} {s = s} l a h) = kept_word (b ∷ s) (word l a h)
kept (digits {b = b} {s = s} d a h) =
    record {
      kind = refl;
      sound = h;
      fewest = digits_fewest (b ∷ s) (whole d a) (omega arith) h;
      joins_same = λ c. refl;
      head_same = λ j y z. joins-digits z (get_or (digits_of (decimal (b ∷ s))) 0 0) b (digit-first (digits_of (decimal (b ∷ s))) (digits-spelled (decimal (b ∷ s)) h)) d;
    }
  where
    whole : is_digit b ≡ true → all is_digit s ≡ true → all is_digit (b ∷ s) ≡ true
    whole p q = rw (p, q)
kept (string {s = s} b h) = kept_as string_kind (quote ∷ s ++ quote ∷ []) (text s) (ap text (inner s)) refl (string b h) refl
kept (mark {k = k} {x = x} f) = kept_as (suc k) x (symbol (suc k)) (is_symbol (suc k) x (omega (arith, mark_range x k f))) refl (rw (spell-mark x k f) (mark f)) (spell-mark x k f)

-- ---- and back: a sound token is the token of its own bytes
pub sound-spelled : (a : Token) → Sound a → Spelled (kind_of a) (spell a)
sound-spelled (symbol k) z = z
sound-spelled (name w) z = z
sound-spelled (number n) h = digits-spelled n h
sound-spelled (text w) z = z

pub token_back : (a : Token) → Sound a → token_of (kind_of a) (spell a) ≡ a
token_back (symbol k) z = go (ℕ_discrete k 70) (ℕ_discrete k 71) (ℕ_discrete k 72)
  where
    none : (j : ℕ) → k ≡ j → spell (symbol j) ≡ [] → ⊥
    none j e q = omega (arith, spelled-some (subst (λ (x : List ℕ). Spelled k x) (ap (λ (i : ℕ). spell (symbol i)) e ∙ q) z))

    go : Dec (k ≡ 70) → Dec (k ≡ 71) → Dec (k ≡ 72) → token_of k (spell (symbol k)) ≡ symbol k
    go (yes e) b c = absurd (none 70 e refl)
    go (no a) (yes e) c = absurd (none 71 e refl)
    go (no a) (no b) (yes e) = absurd (none 72 e refl)
    go (no a) (no b) (no c) = rw (ne_eqb k 70 a, ne_eqb k 71 b, ne_eqb k 72 c)
token_back (name w) z = refl
token_back (number n) h = ap number (digits-write n h)
token_back (text w) z = ap text (inner w)
