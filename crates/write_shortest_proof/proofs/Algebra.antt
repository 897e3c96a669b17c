-- How lighter tokens are put together: kept, side by side, in brackets, and what may be left out or put in another's place.
use Prim.Native.Nat.{ℕ, zero, suc, ◌+◌, ◌-◌, ◌≤◌, ◌<◌}
use native.Mathlib.Omega.{arith}
use native.Mathlib.Decide.{dec_lt}
use mathlib.Core.Path.{◌≡◌, refl, sym as inv, ◌∙◌, ap}
use mathlib.Core.Bool.{Bool, true, false, not, cond}
use mathlib.Core.Option.{Option, none, some}
use mathlib.Core.List.{List, [], ◌∷◌, ◌++◌, append_assoc}
use lib.ListN.{length, length-append}
use lib.Dec.{eqb, ltb, leb}
use borrow.Author.Tests.{lt-leb, leb-false, le-ltb, not-true}
use Rattle.base_bytes.specs.Choice.{pick, both}
use Rattle.base_bytes.specs.Lists.{same}
use Rattle.base_bytes.proofs.Tests.{both_true, either_no}
use Rattle.base_kinds.specs.Kinds.{Token, sym, name, number, text}
use Rattle.spec_text.specs.Find.{find}
use Rattle.spec_text.specs.Spelled.{joins, mark}
use Rattle.spec_text.specs.Writing.{spell, apart, write_behind}
use Rattle.text_spacing_proof.specs.Sound.{AllSound}
use Rattle.text_spacing_proof.proofs.Written.{space_if}
use Rattle.spec_grammar.specs.Marks.{'lpar, 'rpar, '[, '], 'lbrace, 'rbrace, 'comma, 'semi, '->, 'if, 'fi, 'do, 'od}
use Rattle.spec_grammar.specs.Depth.{opens_bracket, closes_bracket, opens_selection, closes_selection, count_after, passes, one_later, deep_from}
use Rattle.parse_grammar.proofs.Tests.{some-none, later-none}
use Rattle.write_shortest_proof.specs.Lighter.{brackets, selections, Even, Shorter, Lighter}

-- ---- what is written behind a token differs by one space at most
space_one : (b : Bool) → length (space_if b) ≤ 1
space_one true = omega arith
space_one false = omega arith

written_cons : (a c : Token) (vs : List Token) → length (write_behind a (c ∷ vs)) ≡ length (space_if (apart a c)) + (length (spell c) + length (write_behind c vs))
unfolding write_behind
written_cons a c vs = omega (arith, length-append (space_if (apart a c)) (spell c ++ write_behind c vs), length-append (spell c) (write_behind c vs))

near : (a c : Token) (vs : List Token) → length (write_behind a vs) ≤ 1 + length (write_behind c vs)
unfolding write_behind
near a c [] = omega arith
near a c (d ∷ vs) = omega (arith, written_cons a d vs, written_cons c d vs, space_one (apart a d), space_one (apart c d))

-- ---- no token joins `,` or `;`, and a comma joins none before it
semi_first : (b : Token) → apart 'semi b ≡ false
unfolding find same
semi_first b = refl

comma_first : (b : Token) → apart 'comma b ≡ false
unfolding find same
comma_first b = refl

unspaced : (d c : Token) → ((b : Token) → apart d b ≡ false) → (vs : List Token) → length (write_behind d vs) ≤ length (write_behind c vs)
unfolding write_behind
unspaced d c e [] = omega arith
unspaced d c e (b ∷ vs) = omega (arith, written_cons d b vs, written_cons c b vs, ap (λ (t : Bool). length (space_if t)) (e b))

abbrev none_join : ℕ → Bool
none_join zero = true
none_join (suc k) = both (not (joins k (spell (sym k)) 44)) (none_join k)

none_at : (n : ℕ) → none_join n ≡ true → (k : ℕ) → k < n → joins k (spell (sym k)) 44 ≡ false
none_at zero e k h = absurd (omega arith)
none_at (suc n) e k h = go (dec_lt k n) (both_true (not (joins n (spell (sym n)) 44)) (none_join n) e).0 (none_at n (both_true (not (joins n (spell (sym n)) 44)) (none_join n) e).1 k)
  where
    go : Dec (k < n) → not (joins n (spell (sym n)) 44) ≡ true → (k < n → joins k (spell (sym k)) 44 ≡ false) → joins k (spell (sym k)) 44 ≡ false
    go (yes z) p q = q z
    go (no z) p q = let w : k ≡ n = omega arith in rw w (not-true (joins n (spell (sym n)) 44) p)

all_none : none_join 38 ≡ true
unfolding find same
all_none = refl

word_none : (x y : Bool) → pick x false (both y false) ≡ false
word_none true y = refl
word_none false true = refl
word_none false false = refl

comma_behind : (a : Token) → apart a 'comma ≡ false
comma_behind (sym k) = go (dec_lt k 38)
  where
    go : Dec (k < 38) → joins k (spell (sym k)) 44 ≡ false
    go (yes h) = none_at 38 all_none k h
    go (no h) = rw (le-ltb k 38 (omega arith)) (word_none (ltb k 71) (eqb k 71))
comma_behind (name w) = refl
comma_behind (number n) = refl
comma_behind (text w) = refl

-- ---- sound tokens
pub sound-front : (x y : List Token) → AllSound (x ++ y) → AllSound x
sound-front [] y p = tt
sound-front (a ∷ x) y p = (p.0, sound-front x y p.1)

pub sound_back : (x y : List Token) → AllSound (x ++ y) → AllSound y
sound_back [] y p = p
sound_back (a ∷ x) y p = sound_back x y p.1

pub sound-both : (x y : List Token) → AllSound x → AllSound y → AllSound (x ++ y)
sound-both [] y p q = q
sound-both (a ∷ x) y p q = (p.0, sound-both x y p.1 q)

-- ---- depth
brackets-append : (x y : List Token) (b : ℕ) → brackets b (x ++ y) ≡ brackets (brackets b x) y
brackets-append [] y b = refl
brackets-append (t ∷ x) y b = brackets-append x y (count_after (opens_bracket t) (closes_bracket t) b)

selections-append : (x y : List Token) (s : ℕ) → selections s (x ++ y) ≡ selections (selections s x) y
selections-append [] y s = refl
selections-append (t ∷ x) y s = selections-append x y (count_after (opens_selection t) (closes_selection t) s)

-- the token passes no ceiling, and neither do those behind it
step-none : (b s : ℕ) (t : Token) (ts : List Token) → deep_from b s (t ∷ ts) ≡ none
    → (passes b s t ≡ false) × (deep_from (count_after (opens_bracket t) (closes_bracket t) b) (count_after (opens_selection t) (closes_selection t) s) ts ≡ none)
step-none b s t ts e = go (passes b s t) e
  where
    R : Option ℕ
    R = deep_from (count_after (opens_bracket t) (closes_bracket t) b) (count_after (opens_selection t) (closes_selection t) s) ts

    go : (p : Bool) → cond p (some 0) (one_later R) ≡ none → (p ≡ false) × (R ≡ none)
    go true e = absurd (some-none 0 e)
    go false e = (refl, later-none R e)

none-step : (b s : ℕ) (t : Token) (ts : List Token) → passes b s t ≡ false → deep_from (count_after (opens_bracket t) (closes_bracket t) b) (count_after (opens_selection t) (closes_selection t) s) ts ≡ none → deep_from b s (t ∷ ts) ≡ none
none-step b s t ts p q = rw (p, q) refl

none-front : (x y : List Token) (b s : ℕ) → deep_from b s (x ++ y) ≡ none → deep_from b s x ≡ none
none-front [] y b s e = refl
none-front (t ∷ x) y b s e = let p = step-none b s t (x ++ y) e in none-step b s t x p.0 (none-front x y _ _ p.1)

none-back : (x y : List Token) (b s : ℕ) → deep_from b s (x ++ y) ≡ none → deep_from (brackets b x) (selections s x) y ≡ none
none-back [] y b s e = e
none-back (t ∷ x) y b s e = none-back x y _ _ (step-none b s t (x ++ y) e).1

none_both : (x y : List Token) (b s : ℕ) → deep_from b s x ≡ none → deep_from (brackets b x) (selections s x) y ≡ none → deep_from b s (x ++ y) ≡ none
none_both [] y b s p q = q
none_both (t ∷ x) y b s p q = let r = step-none b s t x p in none-step b s t (x ++ y) r.0 (none_both x y _ _ r.1 q)

-- ---- THE ALGEBRA: nothing for nothing
pub nothing : Lighter [] []
nothing = record { short = λ vs ws h. h; sound = λ p. tt; flat = λ b c s h e. refl; even = record { of_brackets = λ b. refl; of_selections = λ s. refl }; even_before = record { of_brackets = λ b. refl; of_selections = λ s. refl } }

even_both : (x y : List Token) → Even x → Even y → Even (x ++ y)
even_both x y p q =
    record {
      of_brackets = λ b. brackets-append x y b ∙ ap (λ (c : ℕ). brackets c y) (p.of_brackets b) ∙ q.of_brackets b;
      of_selections = λ s. selections-append x y s ∙ ap (λ (c : ℕ). selections c y) (p.of_selections s) ∙ q.of_selections s;
    }

-- side by side
pub beside : {us ts xs ys : List Token} → Lighter us ts → Lighter xs ys → Lighter (us ++ xs) (ts ++ ys)
beside {us} {ts} {xs} {ys} p q =
    record {
      short = λ vs ws h a. rw (append_assoc us xs vs, append_assoc ts ys ws) (p.short (xs ++ vs) (ys ++ ws) (q.short vs ws h) a);
      sound = λ z. sound-both us xs (p.sound (sound-front ts ys z)) (q.sound (sound_back ts ys z));
      flat = λ b c s h e.
          none_both us xs c s (p.flat b c s h (none-front ts ys b s e))
          (rw (p.even.of_brackets c, p.even.of_selections s)
          (q.flat b c s h (rw (p.even_before.of_brackets b, p.even_before.of_selections s) at (none-back ts ys b s e))));
      even = even_both us xs p.even q.even;
      even_before = even_both ts ys p.even_before q.even_before;
    }

-- a token that neither opens nor closes
pub record Neutral (t : Token) : Type 0 where
  pub open_bracket : opens_bracket t ≡ false
  pub close_bracket : closes_bracket t ≡ false
  pub open_selection : opens_selection t ≡ false
  pub close_selection : closes_selection t ≡ false

neutral_even : (t : Token) → Neutral t → Even (t ∷ [])
neutral_even t n = record { of_brackets = λ b. rw (n.open_bracket, n.close_bracket) refl; of_selections = λ s. rw (n.open_selection, n.close_selection) refl }

neutral_flat : (t : Token) → Neutral t → (c s : ℕ) → deep_from c s (t ∷ []) ≡ none
neutral_flat t n c s = rw (n.open_bracket, n.open_selection) refl

keep-short : (t : Token) (vs ws : List Token) → Shorter vs ws → Shorter (t ∷ vs) (t ∷ ws)
keep-short t vs ws h a = omega (arith, written_cons a t vs, written_cons a t ws, h t)

pub keep : (t : Token) → Neutral t → Lighter (t ∷ []) (t ∷ [])
keep t n = record { short = λ vs ws h. keep-short t vs ws h; sound = λ p. p; flat = λ b c s h e. neutral_flat t n c s; even = neutral_even t n; even_before = neutral_even t n }

-- left out
drop-short : (t : Token) → 1 ≤ length (spell t) → (vs ws : List Token) → Shorter vs ws → Shorter vs (t ∷ ws)
drop-short t l vs ws h a = omega (arith, written_cons a t ws, h t, near a t vs)

pub left_out : (t : Token) → Neutral t → 1 ≤ length (spell t) → Lighter [] (t ∷ [])
left_out t n l = record { short = λ vs ws h. drop-short t l vs ws h; sound = λ p. tt; flat = λ b c s h e. refl; even = record { of_brackets = λ b. refl; of_selections = λ s. refl }; even_before = neutral_even t n }

-- `;` for `->`
pub arrow : Lighter ('semi ∷ []) ('-> ∷ [])
unfolding find same
arrow =
    record {
      short = λ vs ws h a. omega (arith, written_cons a 'semi vs, written_cons a '-> ws, h '->, space_one (apart a 'semi), unspaced 'semi '-> semi_first vs);
      sound = λ p. (mark refl, tt);
      flat = λ b c s h e. refl;
      even = record { of_brackets = λ b. refl; of_selections = λ s. refl };
      even_before = record { of_brackets = λ b. refl; of_selections = λ s. refl };
    }

-- ---- in brackets, and between `if` and `fi`, `do` and `od`: they open x brackets and y selections
module _ (o c : Token) (x y : ℕ) (in_b : (b : ℕ) → count_after (opens_bracket o) (closes_bracket o) b ≡ b + x) (in-s : (s : ℕ) → count_after (opens_selection o) (closes_selection o) s ≡ s + y)
    (out-b : (b : ℕ) → count_after (opens_bracket c) (closes_bracket c) (b + x) ≡ b) (out-s : (s : ℕ) → count_after (opens_selection c) (closes_selection c) (s + y) ≡ s)
    (less : (b d s : ℕ) → d ≤ b → passes b s o ≡ false → passes d s o ≡ false) (ends : (b s : ℕ) → passes b s c ≡ false) where
  around_even : (us : List Token) → Even us → Even (o ∷ us ++ c ∷ [])
  around_even us p =
      record {
        of_brackets = λ b. brackets-append us (c ∷ []) (count_after (opens_bracket o) (closes_bracket o) b) ∙ rw (in_b b, p.of_brackets (b + x)) (out-b b);
        of_selections = λ s. selections-append us (c ∷ []) (count_after (opens_selection o) (closes_selection o) s) ∙ rw (in-s s, p.of_selections (s + y)) (out-s s);
      }

  -- what is inside passes no ceiling
  inside : (ts : List Token) (b s : ℕ) → deep_from b s (o ∷ ts ++ c ∷ []) ≡ none → (passes b s o ≡ false) × (deep_from (b + x) (s + y) ts ≡ none)
  inside ts b s e =
      let p = step-none b s o (ts ++ c ∷ []) e in
      (p.0, rw (in_b b, in-s s) at (none-front ts (c ∷ []) _ _ p.1))

  outside : (us : List Token) → Even us → (b s : ℕ) → passes b s o ≡ false → deep_from (b + x) (s + y) us ≡ none → deep_from b s (o ∷ us ++ c ∷ []) ≡ none
  outside us p b s q r =
      none-step b s o (us ++ c ∷ []) q
      (rw (in_b b, in-s s)
      (none_both us (c ∷ []) (b + x) (s + y) r (rw (p.of_brackets (b + x), p.of_selections (s + y)) (none-step (b + x) (s + y) c [] (ends (b + x) (s + y)) refl))))

  pub around : {us ts : List Token} → Lighter us ts → Lighter (o ∷ us ++ c ∷ []) (o ∷ ts ++ c ∷ [])
  around {us} {ts} p =
      record {
        short = λ vs ws h a.
            rw (append_assoc us (c ∷ []) vs, append_assoc ts (c ∷ []) ws) (keep-short o (us ++ c ∷ vs) (ts ++ c ∷ ws) (p.short (c ∷ vs) (c ∷ ws) (keep-short c vs ws h)) a);
        sound = λ z. (z.0, sound-both us (c ∷ []) (p.sound (sound-front ts (c ∷ []) z.1)) (sound_back ts (c ∷ []) z.1));
        flat = λ b d s h e.
            (let i = inside ts b s e in outside us p.even d s (less b d s h i.0) (p.flat (b + x) (d + x) (s + y) (omega arith) i.1));
        even = around_even us p.even;
        even_before = around_even ts p.even_before;
      }

below : (k b d : ℕ) → d ≤ b → leb k b ≡ false → leb k d ≡ false
below k b d h e = lt-leb k d (omega (arith, leb-false k b e))

pub in_parentheses : {us ts : List Token} → Lighter us ts → Lighter ('lpar ∷ us ++ 'rpar ∷ []) ('lpar ∷ ts ++ 'rpar ∷ [])
in_parentheses p = around 'lpar 'rpar 1 0 (λ b. refl) (λ s. omega arith) (λ b. omega arith) (λ s. omega arith) (λ b d s h e. either_no (leb 32 d) ∙ below 32 b d h (inv (either_no (leb 32 b)) ∙ e)) (λ b s. refl) p

pub in_squares : {us ts : List Token} → Lighter us ts → Lighter ('[ ∷ us ++ '] ∷ []) ('[ ∷ ts ++ '] ∷ [])
in_squares p = around '[ '] 1 0 (λ b. refl) (λ s. omega arith) (λ b. omega arith) (λ s. omega arith) (λ b d s h e. either_no (leb 32 d) ∙ below 32 b d h (inv (either_no (leb 32 b)) ∙ e)) (λ b s. refl) p

pub in_braces : {us ts : List Token} → Lighter us ts → Lighter ('lbrace ∷ us ++ 'rbrace ∷ []) ('lbrace ∷ ts ++ 'rbrace ∷ [])
in_braces p = around 'lbrace 'rbrace 1 0 (λ b. refl) (λ s. omega arith) (λ b. omega arith) (λ s. omega arith) (λ b d s h e. either_no (leb 32 d) ∙ below 32 b d h (inv (either_no (leb 32 b)) ∙ e)) (λ b s. refl) p

pub in_if : {us ts : List Token} → Lighter us ts → Lighter ('if ∷ us ++ 'fi ∷ []) ('if ∷ ts ++ 'fi ∷ [])
in_if p = around 'if 'fi 0 1 (λ b. omega arith) (λ s. refl) (λ b. omega arith) (λ s. omega arith) (λ b d s h e. e) (λ b s. refl) p

pub in_do : {us ts : List Token} → Lighter us ts → Lighter ('do ∷ us ++ 'od ∷ []) ('do ∷ ts ++ 'od ∷ [])
in_do p = around 'do 'od 0 1 (λ b. omega arith) (λ s. refl) (λ b. omega arith) (λ s. omega arith) (λ b d s h e. e) (λ b s. refl) p

-- ---- parentheses left out, and `x,y` for `x(y)`
pub peeled : {us ts : List Token} → Lighter us ts → Lighter us ('lpar ∷ ts ++ 'rpar ∷ [])
peeled {us} {ts} p =
    record {
      short = λ vs ws h a.
          rw (append_assoc ts ('rpar ∷ []) ws) (drop-short 'lpar (omega arith) (us ++ vs) (ts ++ 'rpar ∷ ws) (p.short vs ('rpar ∷ ws) (drop-short 'rpar (omega arith) vs ws h)) a);
      sound = λ z. p.sound (sound-front ts ('rpar ∷ []) z.1);
      flat = λ b c s h e. p.flat (b + 1) c s (omega arith) (none-front ts ('rpar ∷ []) (b + 1) s (step-none b s 'lpar (ts ++ 'rpar ∷ []) e).1);
      even = p.even;
      even_before = (in_parentheses p).even_before;
    }

called-short : (vs ws : List Token) → Shorter vs ws → Shorter ('comma ∷ vs) ('lpar ∷ ws)
called-short vs ws h a =
    omega (arith, written_cons a 'comma vs, written_cons a 'lpar ws, h 'lpar, unspaced 'comma 'lpar comma_first vs, ap (λ (t : Bool). length (space_if t)) (comma_behind a))

pub called : {us ts : List Token} → Lighter us ts → Lighter ('comma ∷ us) ('lpar ∷ ts ++ 'rpar ∷ [])
unfolding find same
called {us} {ts} p =
    record {
      short = λ vs ws h a.
          rw (append_assoc ts ('rpar ∷ []) ws) (called-short (us ++ vs) (ts ++ 'rpar ∷ ws) (p.short vs ('rpar ∷ ws) (drop-short 'rpar (omega arith) vs ws h)) a);
      sound = λ z. (mark refl, p.sound (sound-front ts ('rpar ∷ []) z.1));
      flat = λ b c s h e. rw (p.flat (b + 1) c s (omega arith) (none-front ts ('rpar ∷ []) (b + 1) s (step-none b s 'lpar (ts ++ 'rpar ∷ []) e).1)) refl;
      even = record { of_brackets = λ b. p.even.of_brackets b; of_selections = λ s. p.even.of_selections s };
      even_before = (in_parentheses p).even_before;
    }
