-- The laws that a step's line, read in one pass, cites: a number of one or two digits, and the line that two of them make.
use mathlib.Core.Path.{◌≡◌, refl, sym, ap, ap₂, subst, ◌∙◌}
use mathlib.Core.Bool.{Bool, true}
use mathlib.Core.List.{List, [], ◌∷◌, ◌++◌, append_assoc}
use Prim.Native.Nat.{ℕ, zero, suc, ◌+◌, ◌-◌, ◌*◌, ◌≤◌, ◌<◌}
use native.Mathlib.Omega.{arith}
use borrow.Author.Tests.{eqb-true, leb-true, ne_eqb}
use lib.Dec.{eqb, leb}
use lib.ListN.{length, get_or, take, drop, length-append, length-drop, take-append-drop}
use lib.Seq.{drop-cons, drop-drop, length-take-le}
use Rattle.base_bytes.specs.Choice.{both}
use Rattle.base_bytes.proofs.Tests.{both_true}
use Rattle.spec_text.specs.Bytes.{is_digit}
use Rattle.text_pieces.specs.Spans.{span}
use Rattle.spec_text.specs.Digits.{decimal_from, decimal}
use Rattle.spec_trails.specs.Trails.{tab, line_end, Recorded, step_line}
use Rattle.trail_form.specs.Records.{well_formed, record_of}
use Rattle.trail_form.specs.Forms.{line_of}
use Rattle.trail_form.specs.declared.Record.TheVariants.{Step}
use Rattle.trail_form.proofs.Numbers.{formed_written}
use Rattle.trail_form.proofs.Written.{First, first-line}

-- ---- a number of one or two digits
pub digit_low : (b : ℕ) → is_digit b ≡ true → 48 ≤ b
digit_low b e = leb-true 48 b (both_true (leb 48 b) (leb b 57) e).0

-- what is known of a number of n digits and value v, at the front of two bytes
abbrev pub Short : ℕ → ℕ → ℕ → ℕ → Type 0
Short a b n v = (n ≤ 2) × ((well_formed (take n (a ∷ b ∷ [])) ≡ true) × (v ≡ decimal (take n (a ∷ b ∷ []))))

pub one-digit : (a b : ℕ) → is_digit a ≡ true → Short a b 1 (a - 48)
unfolding span decimal_from
one-digit a b e = (omega arith, (rw e, omega arith))

pub two_digits : (a b : ℕ) → is_digit a ≡ true → is_digit b ≡ true → (a - 48 ≡ 0 → ⊥) → Short a b 2 ((a - 48) * 10 + (b - 48))
unfolding span decimal_from
two_digits a b e f h = (omega arith, (rw (e, f, ne_eqb a 48 (λ z. h (omega arith))), omega arith))

-- ---- parts of a text
-- the part at a place, the byte behind it, and what stands behind that
parted : (s : List ℕ) (i n c : ℕ) → i + n < length s → get_or s (i + n) 0 ≡ c → drop i s ≡ take n (drop i s) ++ c ∷ drop (i + n + 1) s
parted s i n c h e =
    let z : suc (i + n) ≡ i + n + 1 = omega arith in
    sym (take-append-drop n (drop i s)) ∙ ap (λ (y : List ℕ). take n (drop i s) ++ y) (drop-drop n i s ∙ (drop-cons s (i + n) 0 h ∙ ap₂ (λ (b k : ℕ). b ∷ drop k s) e z))

two_bytes : (s : List ℕ) (i j n : ℕ) → j ≡ i + 1 → j < length s → n ≤ 2 → take n (get_or s i 0 ∷ get_or s j 0 ∷ []) ≡ take n (drop i s)
two_bytes s i j n e h k =
    let z : j ≡ suc i = omega arith in
    front n (get_or s i 0) (get_or s j 0) (drop (suc j) s) k
    ∙ ap (take n) (sym (drop-cons s i 0 (omega arith) ∙ ap (get_or s i 0 ∷◌) (ap (λ (m : ℕ). drop m s) (sym z) ∙ drop-cons s j 0 h)))
  where
    front : (n a b : ℕ) (x : List ℕ) → n ≤ 2 → take n (a ∷ b ∷ []) ≡ take n (a ∷ b ∷ x)
    front zero a b x h = refl
    front (suc zero) a b x h = refl
    front (suc (suc zero)) a b x h = refl
    front (suc (suc (suc n))) a b x h = absurd (omega arith)

-- ---- a line of two numbers
two_fields : (u v rest : List ℕ) → well_formed u ≡ true → well_formed v ≡ true → (s : List ℕ) → s ≡ 83 ∷ tab ∷ (u ++ tab ∷ (v ++ line_end ∷ rest))
    → (2 + length u + 1 + length v ≡ line_of s) × (Step (decimal u) (decimal v) ≡ record_of (take (line_of s) s))
two_fields u v rest hu hv s e =
    let (eu, lu) = formed_written u hu in
    let (ev, lv) = formed_written v hv in
    let a : Recorded = record { process = decimal u; choice = decimal v } in
    let w : step_line a ≡ 83 ∷ tab ∷ (u ++ tab ∷ v) = ap₂ (λ (x y : List ℕ). 83 ∷ tab ∷ (x ++ tab ∷ y)) (sym eu) (sym ev) in
    let q : step_line a ++ line_end ∷ rest ≡ s = ap (◌++ line_end ∷ rest) w ∙ (ap (λ (x : List ℕ). 83 ∷ tab ∷ x) (append_assoc u (tab ∷ v) (line_end ∷ rest)) ∙ sym e) in
    let f : First a rest s = subst (First a rest) q (first-line a rest lu lv) in
    (omega (arith, f.long, ap length w, length-append u (tab ∷ v)), sym f.here)

-- `S`, a tab, a number, a tab, a number, a line end
module _ (s : List ℕ) (h : 8 ≤ length s) {begun : Bool} (eb : begun ≡ both (eqb (get_or s 0 0) 83) (eqb (get_or s 1 0) tab)) (tb : begun ≡ true) (a b p k : ℕ)
    (fa : Short (get_or s 2 0) (get_or s 3 0) a p) (ta : get_or s (2 + a) 0 ≡ 9)
    (fb : Short (get_or s (2 + a + 1) 0) (get_or s (2 + a + 2) 0) b k) (te : get_or s (2 + a + 1 + b) 0 ≡ 10) where
  abbrev one : List ℕ
  one = take a (drop 2 s)

  abbrev two : List ℕ
  two = take b (drop (2 + a + 1) s)

  one_is : take a (get_or s 2 0 ∷ get_or s 3 0 ∷ []) ≡ one
  one_is = two_bytes s 2 3 a (omega arith) (omega (arith, h)) fa.0

  two_is : take b (get_or s (2 + a + 1) 0 ∷ get_or s (2 + a + 2) 0 ∷ []) ≡ two
  two_is = two_bytes s (2 + a + 1) (2 + a + 2) b (omega arith) (omega (arith, h, fa.0)) fb.0

  one_formed : well_formed one ≡ true
  one_formed = ap well_formed (sym one_is) ∙ fa.1.0

  two_formed : well_formed two ≡ true
  two_formed = ap well_formed (sym two_is) ∙ fb.1.0

  front : s ≡ 83 ∷ tab ∷ drop 2 s
  front =
      let (p, q) = both_true (eqb (get_or s 0 0) 83) (eqb (get_or s 1 0) tab) (sym eb ∙ tb) in
      drop-cons s 0 0 (omega (arith, h)) ∙ ap₂ (λ (b : ℕ) (x : List ℕ). b ∷ x) (eqb-true (get_or s 0 0) 83 p)
      (drop-cons s 1 0 (omega (arith, h)) ∙ ap (◌∷ drop 2 s) (eqb-true (get_or s 1 0) tab q))

  whole : s ≡ 83 ∷ tab ∷ (one ++ tab ∷ (two ++ line_end ∷ drop (2 + a + 1 + b + 1) s))
  whole =
      front ∙ ap (λ (x : List ℕ). 83 ∷ tab ∷ x) (parted s 2 a tab (omega (arith, h, fa.0)) ta
      ∙ ap (λ (x : List ℕ). one ++ tab ∷ x) (parted s (2 + a + 1) b line_end (omega (arith, h, fa.0, fb.0)) te))

  pub quick_line : (2 + a + 1 + b ≡ line_of s) × (Step p k ≡ record_of (take (line_of s) s))
  quick_line =
      let (n, r) = two_fields one two (drop (2 + a + 1 + b + 1) s) one_formed two_formed s whole in
      let la : length one ≡ a = length-take-le a (drop 2 s) (omega (arith, h, fa.0, length-drop 2 s)) in
      let lb : length two ≡ b = length-take-le b (drop (2 + a + 1) s) (omega (arith, h, fa.0, fb.0, length-drop (2 + a + 1) s)) in
      (omega (arith, n, la, lb), ap₂ Step (fa.1.1 ∙ ap decimal one_is) (fb.1.1 ∙ ap decimal two_is) ∙ r)
