-- Tokens spelled and written one after the other.
use Prim.Native.Nat.{ℕ, zero, suc, ◌+◌, ◌-◌, ◌/◌, ◌%◌, ◌≤◌, ◌<◌}
use mathlib.Core.Path.{◌≡◌, refl, sym, ◌∙◌, ap}
use mathlib.Core.Bool.{Bool, true, false}
use mathlib.Core.List.{List, [], ◌∷◌, ◌++◌, append_assoc, map}
use native.Mathlib.Omega.{arith}
use native.Mathlib.Numerals.{add-one}
use lib.ListN.{length, get_or, take, drop, length-append, drop_of_length-le}
use lib.Seq.{take_at, drop-cons}
use lib.Dec.{eqb, ltb}
use borrow.Author.Tests.{lt-ltb, le-ltb, ne_eqb}
use Rattle.base_codes.specs.Codes.{c_number, c_text}
use Rattle.base_bytes.specs.Choice.{pick}
use Rattle.base_kinds.specs.Kinds.{sym as symbol, name, number, text, kind_of}
use Rattle.spec_text.specs.Writing.{spell, write}
use Rattle.spec_text.specs.Formats.{digits_by}
use Rattle.base_pens.specs.Pen.{Pen, pen, write as write-one, puts}
use Rattle.base_pens.proofs.Pen.{puts-append, puts_fit}
use Rattle.text_pens.specs.Sheet.{spelled_by}
use Rattle.text_pens.specs.After.{joins_by, write_after}
use Rattle.text_pens.proofs.After.{write-after}
use Rattle.text_pens.proofs.Sheet.{spelled-short}
use Rattle.table_layout.specs.Access.{code_of, number_of, name_length, name_byte}
use Rattle.table_layout.specs.Back.{upto}
use Rattle.write_letters.specs.Tokens.{behind, spelled, held_of, token_by}

-- ---- kinds and spellings by the numbers of tokens
module _ (t : List ℕ) where
  pub kind_fixed : (v : ℕ) → v < 70 → v ≡ kind_of (token_by t v)
  unfolding token_by
  kind_fixed v h = rw (lt-ltb v 70 h)

  module _ (v i c : ℕ) (h : 70 ≤ v) (j : i ≡ v - 256) (e : c ≡ code_of t i) where
    pub kind_number : c ≡ c_number → 71 ≡ kind_of (token_by t v)
    unfolding token_by held_of
    kind_number f = rw (le-ltb v 70 h, ← j, ← e, f)

    pub kind_text : c ≡ c_text → 72 ≡ kind_of (token_by t v)
    unfolding token_by held_of
    kind_text f = rw (le-ltb v 70 h, ← j, ← e, f)

    pub kind_name : (c ≡ c_number → ⊥) → (c ≡ c_text → ⊥) → 70 ≡ kind_of (token_by t v)
    unfolding token_by held_of
    kind_name f g = rw (le-ltb v 70 h, ← j, ← e, ne_eqb c c_number f, ne_eqb c c_text g)

  pub fixed_spelled : (v : ℕ) (w x : Pen) → v < 70 → x ≡ puts (spelled_by v) w → x ≡ puts (spell (token_by t v)) w
  unfolding token_by
  fixed_spelled v w x h e = rw (lt-ltb v 70 h) e

  pub held-spelled : (v i : ℕ) (w x : Pen) → 70 ≤ v → i ≡ v - 256 → x ≡ puts (spell (held_of t i)) w → x ≡ puts (spell (token_by t v)) w
  unfolding token_by
  held-spelled v i w x h j e = rw (le-ltb v 70 h, ← j) e

  module _ (i c : ℕ) (w x : Pen) (e : c ≡ code_of t i) where
    pub number_spelled : (n : ℕ) → c ≡ c_number → n ≡ number_of t i → x ≡ puts (digits_by 10 n) w → x ≡ puts (spell (held_of t i)) w
    unfolding held_of
    number_spelled n f g p = rw (← e, f, ← g) p

    pub text-spelled : (y z : Pen) → c ≡ c_text → y ≡ write-one 34 w → z ≡ puts (spelled t i) y → x ≡ write-one 34 z → x ≡ puts (spell (held_of t i)) w
    unfolding held_of puts
    text-spelled y z f p q r = rw (← e, f, puts-append (spelled t i) (34 ∷ []) (write-one 34 w), ← p, ← q) r

    pub name-spelled : (c ≡ c_number → ⊥) → (c ≡ c_text → ⊥) → x ≡ puts (spelled t i) w → x ≡ puts (spell (held_of t i)) w
    unfolding held_of
    name-spelled f g p = rw (← e, ne_eqb c c_number f, ne_eqb c c_text g) p

  -- ---- the bytes of a name
  pub name-start : (i n : ℕ) (w : Pen) → n ≡ name_length t i → puts (upto (name_byte t i) 0 (n - 0)) w ≡ puts (upto (name_byte t i) 0 (name_length t i)) w
  name-start i n w e = let q : n - 0 ≡ name_length t i = omega arith in rw q

  pub name-more : (i k n v : ℕ) (w x : Pen) → k < n → v ≡ name_byte t i k → x ≡ write-one v w → puts (upto (name_byte t i) (k + 1) (n - (k + 1))) x ≡ puts (upto (name_byte t i) k (n - k)) w
  unfolding upto puts
  name-more i k n v w x h e f = let q : n - k ≡ suc (n - (k + 1)) = omega arith in rw (q, f, e)

  pub name_end : (i k n : ℕ) (w : Pen) → n ≤ k → puts (upto (name_byte t i) k (n - k)) w ≡ w
  unfolding upto puts
  name_end i k n w h = let q : n - k ≡ 0 = omega arith in rw q

-- ---- no token is long
length-upto : (f : ℕ → ℕ) (i n : ℕ) → length (upto f i n) ≡ n
unfolding upto
length-upto f i zero = refl
length-upto f i (suc n) = ap suc (length-upto f (i + 1) n)

pub digits-short : (f n : ℕ) → length (digits_by f n) ≤ f
unfolding digits_by
digits-short zero n = omega arith
digits-short (suc f) n = go (ltb n 10) (digits-short f (n / 10))
  where
    go : (b : Bool) → length (digits_by f (n / 10)) ≤ f → length (pick b ((48 + n) ∷ []) (digits_by f (n / 10) ++ (48 + n % 10) ∷ [])) ≤ suc f
    go true h = omega arith
    go false h = omega (arith, length-append (digits_by f (n / 10)) ((48 + n % 10) ∷ []))

module _ (t : List ℕ) where
  held-short : (i : ℕ) → length (spell (held_of t i)) ≤ 129
  unfolding held_of
  held-short i = go (eqb (code_of t i) c_number) (eqb (code_of t i) c_text)
    where
      go : (a b : Bool) → length (spell (pick a (number (number_of t i)) (pick b (text (spelled t i)) (name (spelled t i))))) ≤ 129
      go true b = omega (arith, digits-short 10 (number_of t i))
      go false true = omega (arith, length-append (spelled t i) (34 ∷ []), length-upto (name_byte t i) 0 (name_length t i))
      go false false = omega (arith, length-upto (name_byte t i) 0 (name_length t i))

  token_short : (v : ℕ) → length (spell (token_by t v)) ≤ 129
  unfolding token_by
  token_short v = go (ltb v 70)
    where
      go : (a : Bool) → length (spell (pick a (symbol v) (held_of t (v - 256)))) ≤ 129
      go true = omega (arith, spelled-short v)
      go false = held-short (v - 256)

  -- what a buffer of 160 bytes holds of it
  module _ (v : ℕ) (old new : List ℕ) (n : ℕ) (l : length old ≡ 160) (e : pen new n ≡ puts (spell (token_by t v)) (pen old 0)) where
    in_buffer : pen new n ≡ pen (spell (token_by t v) ++ drop (length (spell (token_by t v))) old) (length (spell (token_by t v)))
    in_buffer = e ∙ puts_fit (spell (token_by t v)) old (omega (arith, token_short v))

    pub buffer_fits : n ≤ length new
    buffer_fits = omega (arith, ap Pen.at in_buffer, ap (λ (x : Pen). length x.list) in_buffer, length-append (spell (token_by t v)) (drop (length (spell (token_by t v))) old))

    pub buffer_holds : take (n - 0) new ≡ spell (token_by t v)
    buffer_holds =
        let q : n - 0 ≡ n = omega arith in
        rw q
        (ap (λ (x : Pen). take x.at x.list) in_buffer
        ∙ take_at (spell (token_by t v)) (drop (length (spell (token_by t v))) old) (length (spell (token_by t v))) refl)

  pub token_written : (k v c : ℕ) (s : List ℕ) (b : Bool) (w x y : Pen) → s ≡ spell (token_by t v) → c ≡ get_or s 0 0 → b ≡ joins_by k c → x ≡ puts (pick b (32 ∷ []) []) w → y ≡ puts s x
      → y ≡ puts (behind k (token_by t v)) w
  token_written k v c s b w x y e f g p q = q ∙ rw (p, ← e, ← f, ← g, ← puts-append (pick b (32 ∷ []) []) s w) refl

  -- ---- one token after the other
  pub tokens-more : (toks : List ℕ) (j v k k2 : ℕ) (w x : Pen) → j < length toks → v ≡ get_or toks j 0 → k2 ≡ kind_of (token_by t v) → x ≡ puts (behind k (token_by t v)) w
      → puts (write_after k2 (map (token_by t) (drop (j + 1) toks))) x ≡ puts (write_after k (map (token_by t) (drop j toks))) w
  unfolding write_after
  tokens-more toks j v k k2 w x h e f g =
      rw (drop-cons toks j 0 h, ← e, f, g, add-one)
      (sym (puts-append (behind k (token_by t v)) (write_after (kind_of (token_by t v)) (map (token_by t) (drop (suc j) toks))) w)
      ∙ ap (λ (z : List ℕ). puts z w) (append_assoc (pick (joins_by k (get_or (spell (token_by t v)) 0 0)) (32 ∷ []) []) (spell (token_by t v)) (write_after (kind_of (token_by t v)) (map (token_by t) (drop (suc j) toks)))))

  pub tokens-start : (toks : List ℕ) (w : Pen) → puts (write_after 72 (map (token_by t) toks)) w ≡ puts (write (map (token_by t) toks)) w
  tokens-start toks w = ap (λ (z : List ℕ). puts z w) (sym (write-after (map (token_by t) toks)))

  pub tokens_end : (toks : List ℕ) (j k : ℕ) (w : Pen) → length toks ≤ j → puts (write_after k (map (token_by t) (drop j toks))) w ≡ w
  unfolding write_after puts
  tokens_end toks j k w h = rw (drop_of_length-le toks {i = j} h)
