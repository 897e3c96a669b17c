-- Laws of shown bytes: their length, that every line of what a model prints has its margin, and that what is shown determines what was printed, and of a statement the statement.
use Prim.Native.Nat.{ℕ, ◌+◌, ◌-◌, ◌*◌, ◌/◌, ◌%◌, ◌≤◌, ◌<◌}
use mathlib.Core.Path.{◌≡◌, refl, sym, ap, ap₂, ◌∙◌}
use mathlib.Core.Bool.{Bool, true, false}
use mathlib.Core.List.{List, [], ◌∷◌, ◌++◌, append_assoc, append-nil}
use native.Mathlib.Omega.{arith}
use native.Mathlib.Decide.{dec_lt}
use lib.ListN.{length, get_or, drop, length-append}
use borrow.Author.Tests.{ne_eqb, eqb-true, lt-ltb, le-ltb}
use lib.Dec.{eqb, ltb}
use Rattle.base_bytes.specs.Choice.{pick}
use Rattle.base_bytes.proofs.Tests.{true_false, both_true}
use Rattle.spec_account.specs.Bytes.{hex_digit, is_visible, visible, each_visible, is_escapable, is_paired_from, is_paired, is_plain, escaped, margin, shown_byte, shown, indented}

-- ---- the room that is lent for a step's text is enough
escaped-short : (b : ℕ) → length (escaped b) ≤ 4
unfolding escaped
escaped-short b = by (is_plain b)
  where
    by : (p : Bool) → length (pick p (b ∷ []) (92 ∷ 120 ∷ hex_digit (b / 16) ∷ hex_digit (b % 16) ∷ [])) ≤ 4
    by true = omega arith
    by false = omega arith

byte-short : (f : Bool) (b : ℕ) → length (shown_byte f b) ≤ 6
unfolding shown_byte margin
byte-short true b = by (eqb b 10)
  where
    by : (p : Bool) → length ((32 ∷ 32 ∷ []) ++ pick p (10 ∷ []) (escaped b)) ≤ 6
    by true = omega arith
    by false = omega (arith, escaped-short b)
byte-short false b = by (eqb b 10)
  where
    by : (p : Bool) → length (pick p (10 ∷ []) (escaped b)) ≤ 6
    by true = omega arith
    by false = omega (arith, escaped-short b)

pub shown-short : (f : Bool) (l : List ℕ) → length (shown f l) ≤ 6 * length l
unfolding shown
shown-short f [] = omega arith
shown-short f (b ∷ l) = omega (arith, length-append (shown_byte f b) (shown (eqb b 10) l), byte-short f b, shown-short (eqb b 10) l)

-- ---- EVERY LINE OF WHAT IS SHOWN HAS ITS MARGIN: no text that a model prints begins a line like an answer or a heading
digit-inside : (n : ℕ) → eqb (hex_digit n) 10 ≡ false
unfolding hex_digit
digit-inside n = by (ltb n 10)
  where
    by : (p : Bool) → eqb (pick p (48 + n) (87 + n % 16)) 10 ≡ false
    by true = ne_eqb (48 + n) 10 (λ e. omega (arith, e))
    by false = ne_eqb (87 + n % 16) 10 (λ e. omega (arith, e))

next-inside : (b : ℕ) (l : List ℕ) → eqb b 10 ≡ false → indented false (b ∷ l) ≡ indented false l
unfolding indented
next-inside b l h = ap (λ p. indented p l) h

escaped-inside : (b : ℕ) (l : List ℕ) → eqb b 10 ≡ false → indented false (escaped b ++ l) ≡ indented false l
unfolding escaped
escaped-inside b l h = by (is_plain b)
  where
    by : (p : Bool) → indented false (pick p (b ∷ []) (92 ∷ 120 ∷ hex_digit (b / 16) ∷ hex_digit (b % 16) ∷ []) ++ l) ≡ indented false l
    by true = next-inside b l h
    by false = next-inside 92 _ refl ∙ next-inside 120 _ refl ∙ next-inside (hex_digit (b / 16)) _ (digit-inside (b / 16)) ∙ next-inside (hex_digit (b % 16)) l (digit-inside (b % 16))

-- behind its margin
byte_inside : (b : ℕ) (l : List ℕ) → indented false (pick (eqb b 10) (10 ∷ []) (escaped b) ++ l) ≡ indented (eqb b 10) l
unfolding indented
byte_inside b l = by (eqb b 10) refl
  where
    by : (p : Bool) → eqb b 10 ≡ p → indented false (pick p (10 ∷ []) (escaped b) ++ l) ≡ indented p l
    by true h = refl
    by false h = escaped-inside b l h

pub shown-indented : (f : Bool) (l : List ℕ) → indented f (shown f l) ≡ true
unfolding shown shown_byte margin indented
shown-indented f [] = refl
shown-indented true (b ∷ l) = byte_inside b (shown (eqb b 10) l) ∙ shown-indented (eqb b 10) l
shown-indented false (b ∷ l) = byte_inside b (shown (eqb b 10) l) ∙ shown-indented (eqb b 10) l

-- ---- WHAT IS SHOWN DETERMINES WHAT WAS PRINTED: the first byte is read back, and what is left behind it
abbrev pub Bytes : List ℕ → Type 0
Bytes [] = Unit {0}
Bytes (b ∷ l) = (b < 256) × Bytes l

abbrev unit : ℕ → List ℕ
unit b = pick (eqb b 10) (10 ∷ []) (escaped b)

abbrev value_of : ℕ → ℕ
value_of d = pick (ltb d 58) (d - 48) (d - 87)

abbrev read_back : List ℕ → ℕ
read_back l = pick (eqb (get_or l 0 0) 92) (16 * value_of (get_or l 2 0) + value_of (get_or l 3 0)) (get_or l 0 0)

abbrev left_behind : List ℕ → List ℕ
left_behind l = drop (pick (eqb (get_or l 0 0) 92) 4 1) l

value_digit : (n : ℕ) → n < 16 → value_of (hex_digit n) ≡ n
unfolding hex_digit
value_digit n h = by (dec_lt n 10)
  where
    by : Dec (n < 10) → value_of (hex_digit n) ≡ n
    by (yes z) = rw (lt-ltb n 10 z, lt-ltb (48 + n) 58 (omega arith)) (omega arith)
    by (no z) = let e : n % 16 ≡ n = omega arith in rw (le-ltb n 10 (omega arith), e, le-ltb (87 + n) 58 (omega arith)) (omega arith)

not-backslash : (b : ℕ) → is_plain b ≡ true → eqb b 92 ≡ false
unfolding is_plain
not-backslash b h = by (eqb b 92) refl
  where
    by : (p : Bool) → eqb b 92 ≡ p → eqb b 92 ≡ false
    by true e = absurd (true_false (sym h ∙ rw e refl))
    by false e = e

read-unit : (b : ℕ) (r : List ℕ) → b < 256 → (read_back (unit b ++ r) ≡ b) × (left_behind (unit b ++ r) ≡ r)
unfolding escaped
read-unit b r h = by (eqb b 10) (is_plain b) refl refl
  where
    by : (p q : Bool) → eqb b 10 ≡ p → is_plain b ≡ q → (read_back (pick p (10 ∷ []) (pick q (b ∷ []) (92 ∷ 120 ∷ hex_digit (b / 16) ∷ hex_digit (b % 16) ∷ [])) ++ r) ≡ b)
        × (left_behind (pick p (10 ∷ []) (pick q (b ∷ []) (92 ∷ 120 ∷ hex_digit (b / 16) ∷ hex_digit (b % 16) ∷ [])) ++ r) ≡ r)
    by true q e f = (sym (eqb-true b 10 e), refl)
    by false true e f = let n = not-backslash b f in (rw n refl, rw n refl)
    by false false e f = (rw (value_digit (b / 16) (omega arith), value_digit (b % 16) (omega arith)) (omega arith), refl)

unit-some : (b : ℕ) (r : List ℕ) → unit b ++ r ≡ [] → ⊥
unfolding escaped
unit-some b r = by (eqb b 10) (is_plain b)
  where
    by : (p q : Bool) → pick p (10 ∷ []) (pick q (b ∷ []) (92 ∷ 120 ∷ hex_digit (b / 16) ∷ hex_digit (b % 16) ∷ [])) ++ r ≡ [] → ⊥
    by true q e = omega (arith, ap length e)
    by false true e = omega (arith, ap length e)
    by false false e = omega (arith, ap length e)

-- behind its margin
behind-margin : (f : Bool) (u v : List ℕ) → margin f ++ u ≡ margin f ++ v → u ≡ v
unfolding margin
behind-margin true u v e = ap (drop 2) e
behind-margin false u v e = e

nothing-behind : (f : Bool) (u : List ℕ) → margin f ++ u ≡ [] → u ≡ []
unfolding margin
nothing-behind true u e = absurd (omega (arith, ap length e))
nothing-behind false u e = e

pub shown_determines : (f : Bool) (x y : List ℕ) → Bytes x → Bytes y → shown f x ≡ shown f y → x ≡ y
unfolding shown shown_byte
shown_determines f [] [] h k e = refl
shown_determines f [] (b ∷ y) h k e = absurd (unit-some b (shown (eqb b 10) y) (nothing-behind f _ (sym (append_assoc (margin f) (unit b) (shown (eqb b 10) y)) ∙ sym e)))
shown_determines f (a ∷ x) [] h k e = absurd (unit-some a (shown (eqb a 10) x) (nothing-behind f _ (sym (append_assoc (margin f) (unit a) (shown (eqb a 10) x)) ∙ e)))
shown_determines f (a ∷ x) (b ∷ y) h k e =
    let same = behind-margin f _ _ (sym (append_assoc (margin f) (unit a) (shown (eqb a 10) x)) ∙ e ∙ append_assoc (margin f) (unit b) (shown (eqb b 10) y)) in
    let first : a ≡ b = sym (read-unit a (shown (eqb a 10) x) h.0).0 ∙ ap read_back same ∙ (read-unit b (shown (eqb b 10) y) k.0).0 in
    let rest : shown (eqb a 10) x ≡ shown (eqb b 10) y = sym (read-unit a (shown (eqb a 10) x) h.0).1 ∙ ap left_behind same ∙ (read-unit b (shown (eqb b 10) y) k.0).1 in
    let others : x ≡ y = shown_determines (eqb b 10) x y h.1 k.1 (ap (λ (c : ℕ). shown (eqb c 10) x) (sym first) ∙ rest) in
    ap (λ (c : ℕ). c ∷ x) first ∙ ap (b ∷◌) others

-- ---- WHAT IS SHOWN OF A STATEMENT DETERMINES IT. A backslash stands as itself there, but behind each stands a byte that makes it one of a string (`is_paired`), never an `x`
escapable_seen : (b : ℕ) → is_escapable b ≡ true → is_visible b ≡ true
unfolding is_escapable is_visible
escapable_seen b h = by (eqb b 110) (eqb b 116) (eqb b 34) (eqb b 92) refl refl refl refl
  where
    by : (p q r s : Bool) → eqb b 110 ≡ p → eqb b 116 ≡ q → eqb b 34 ≡ r → eqb b 92 ≡ s → is_visible b ≡ true
    by true q r s e f g i = rw (eqb-true b 110 e) refl
    by false true r s e f g i = rw (eqb-true b 116 f) refl
    by false false true s e f g i = rw (eqb-true b 34 g) refl
    by false false false true e f g i = rw (eqb-true b 92 i) refl
    by false false false false e f g i = absurd (true_false (sym h ∙ rw (e, f, g, i) refl))

-- the first byte of what is shown, and what is left behind it
seen_first : (b : ℕ) (l : List ℕ) → is_visible b ≡ true → each_visible (b ∷ l) ≡ b ∷ each_visible l
unfolding each_visible visible
seen_first b l h = rw h refl

coded-first : (b : ℕ) (l : List ℕ) → is_visible b ≡ false → each_visible (b ∷ l) ≡ 92 ∷ 120 ∷ hex_digit (b / 16) ∷ hex_digit (b % 16) ∷ each_visible l
unfolding each_visible visible
coded-first b l h = rw h refl

no_x : is_escapable 120 ≡ false
unfolding is_escapable
no_x = refl

-- behind a backslash no `x` is shown
never_x : (l r : List ℕ) → is_paired_from true l ≡ true → each_visible l ≡ 120 ∷ r → ⊥
unfolding is_paired_from
never_x [] r h e = true_false (sym h)
never_x (b ∷ l) r h e =
    let p = both_true (is_escapable b) (is_paired_from false l) h in
    let q : b ≡ 120 = ap (λ z. get_or z 0 0) (sym (seen_first b l (escapable_seen b p.0)) ∙ e) in
    true_false (sym p.0 ∙ ap is_escapable q ∙ no_x)

-- what is not shown as itself
coded_equal : (a b : ℕ) (x y : List ℕ) → a < 256 → b < 256 → 92 ∷ 120 ∷ hex_digit (a / 16) ∷ hex_digit (a % 16) ∷ x ≡ 92 ∷ 120 ∷ hex_digit (b / 16) ∷ hex_digit (b % 16) ∷ y → (a ≡ b) × (x ≡ y)
coded_equal a b x y h k e =
    let u : a / 16 ≡ b / 16 = sym (value_digit (a / 16) (omega arith)) ∙ ap (λ z. value_of (get_or z 2 0)) e ∙ value_digit (b / 16) (omega arith) in
    let v : a % 16 ≡ b % 16 = sym (value_digit (a % 16) (omega arith)) ∙ ap (λ z. value_of (get_or z 3 0)) e ∙ value_digit (b % 16) (omega arith) in
    (omega (arith, u, v), ap (drop 4) e)

unseen_plain : (b : ℕ) → is_visible b ≡ false → eqb b 92 ≡ false
unfolding is_visible
unseen_plain b h = by (eqb b 92) refl
  where
    by : (p : Bool) → eqb b 92 ≡ p → eqb b 92 ≡ false
    by true e = absurd (true_false (rw (eqb-true b 92 e) refl ∙ h))
    by false e = e

-- one shown as itself and one that is not cannot begin alike
unlike : (a : ℕ) (x r : List ℕ) → is_paired_from (eqb a 92) x ≡ true → a ∷ each_visible x ≡ 92 ∷ 120 ∷ r → ⊥
unlike a x r h e = never_x x r (ap (λ (b : ℕ). is_paired_from (eqb b 92) x) (sym (ap (λ z. get_or z 0 0) e)) ∙ h) (ap (drop 1) e)

some : (b : ℕ) (l : List ℕ) (i : Bool) → is_visible b ≡ i → each_visible (b ∷ l) ≡ [] → ⊥
some b l true i e = omega (arith, ap length (sym (seen_first b l i) ∙ e))
some b l false i e = omega (arith, ap length (sym (coded-first b l i) ∙ e))

determined : (x y : List ℕ) (f : Bool) → Bytes x → Bytes y → is_paired_from f x ≡ true → is_paired_from f y ≡ true → each_visible x ≡ each_visible y → x ≡ y
unfolding is_paired_from each_visible
determined [] [] f h k p q e = refl
determined [] (b ∷ y) f h k p q e = absurd (some b y (is_visible b) refl (sym e))
determined (a ∷ x) [] f h k p q e = absurd (some a x (is_visible a) refl e)
determined (a ∷ x) (b ∷ y) true h k p q e =
    let u = both_true (is_escapable a) (is_paired_from false x) p in
    let v = both_true (is_escapable b) (is_paired_from false y) q in
    let g = sym (seen_first a x (escapable_seen a u.0)) ∙ e ∙ seen_first b y (escapable_seen b v.0) in
    ap₂ ◌∷◌ (ap (λ z. get_or z 0 0) g) (determined x y false h.1 k.1 u.1 v.1 (ap (drop 1) g))
determined (a ∷ x) (b ∷ y) false h k p q e = by (λ f. determined x y f h.1 k.1) (is_visible a) (is_visible b) refl refl
  where
    by : ((f : Bool) → is_paired_from f x ≡ true → is_paired_from f y ≡ true → each_visible x ≡ each_visible y → x ≡ y) → (i j : Bool) → is_visible a ≡ i → is_visible b ≡ j → a ∷ x ≡ b ∷ y
    by go true true i j =
        let g = sym (seen_first a x i) ∙ e ∙ seen_first b y j in
        let first : a ≡ b = ap (λ z. get_or z 0 0) g in
        ap₂ ◌∷◌ first (go (eqb a 92) p (ap (λ (c : ℕ). is_paired_from (eqb c 92) y) first ∙ q) (ap (drop 1) g))
    by go true false i j = absurd (unlike a x _ p (sym (seen_first a x i) ∙ e ∙ coded-first b y j))
    by go false true i j = absurd (unlike b y _ q (sym (seen_first b y j) ∙ sym e ∙ coded-first a x i))
    by go false false i j =
        let g = coded_equal a b _ _ h.0 k.0 (sym (coded-first a x i) ∙ e ∙ coded-first b y j) in
        ap₂ ◌∷◌ g.0 (go false (ap (λ z. is_paired_from z x) (sym (unseen_plain a i)) ∙ p) (ap (λ z. is_paired_from z y) (sym (unseen_plain b j)) ∙ q) g.1)

pub statement_determines : (x y : List ℕ) → Bytes x → Bytes y → is_paired x ≡ true → is_paired y ≡ true → each_visible x ≡ each_visible y → x ≡ y
statement_determines x y = determined x y false
