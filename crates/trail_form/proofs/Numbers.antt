-- A number's digits are a number of a trail, and a step's line is the record of that step.
use Prim.Native.Nat.{ℕ, zero, suc, ◌+◌, ◌*◌, ◌-◌, ◌/◌, ◌%◌, ◌^◌, ◌≤◌, ◌<◌}
use mathlib.Core.Path.{◌≡◌, refl, sym, ap, subst, ◌∙◌}
use mathlib.Core.Bool.{Bool, true, false, not}
use mathlib.Core.List.{List, [], ◌∷◌, ◌++◌, append-nil, append_assoc}
use mathlib.Core.Logic.{◌⊎◌, inl, inr}
use native.Mathlib.Omega.{arith}
use borrow.Author.Tests.{ltb-true, lt-ltb, le-ltb, le-leb, leb-true, eq-eqb, ne_eqb, eqb-true, eqb-false, not-true}
use lib.Dec.{eqb, ltb, leb}
use lib.ListN.{length, get_or, take, drop, length-append}
use lib.Seq.{take-append_seam, drop-append-add, take-length}
use Rattle.base_bytes.specs.Choice.{pick, both, either}
use Rattle.base_bytes.proofs.Tests.{both_true, either_true}
use Rattle.spec_text.specs.Bytes.{is_digit}
use Rattle.text_pieces.specs.Spans.{span}
use Rattle.spec_text.specs.Digits.{decimal, decimal_from}
use Rattle.spec_text.specs.Spelled.{all}
use Rattle.spec_text.specs.Formats.{digits_by, digits_of}
use Rattle.text_spacing_proof.proofs.Classes.{digit_range}
use Rattle.text_spacing_proof.proofs.Digits.{digits-write, digits_fewest, decimal-below, digit_of}
use Rattle.text_spacing_proof.proofs.Spans.{span-whole, span-all}
use Rattle.trail_form.specs.Records.{well_formed, is_not, field, behind_field, record_of}
use Rattle.spec_trails.specs.Trails.{tab, step_line}
use Rattle.trail_form.specs.declared.Record.TheVariants.{Step, Malformed}

-- ---- what all bytes of a list are
pub all_append : (p : ℕ → Bool) (x y : List ℕ) → all p x ≡ true → all p y ≡ true → all p (x ++ y) ≡ true
unfolding all
all_append p [] y a e = e
all_append p (b ∷ x) y a e = let (u, v) = both_true (p b) (all p x) a in rw (u, all_append p x y v e)

pub all-not : (c : ℕ) → c < 48 → (x : List ℕ) → all is_digit x ≡ true → all (is_not c) x ≡ true
unfolding all
all-not c h [] a = refl
all-not c h (b ∷ x) a =
    let (u, v) = both_true (is_digit b) (all is_digit x) a in
    let (lo, _) = both_true (leb 48 b) (leb b 57) u in
    let l : 48 ≤ b = leb-true 48 b lo in
    rw (ne_eqb b c (λ e. omega arith), all-not c h x v)

pub digits-all : (f n : ℕ) → all is_digit (digits_by f n) ≡ true
unfolding digits_by all
digits-all zero n = refl
digits-all (suc f) n = go (ltb n 10) refl (digits-all f (n / 10))
  where
    go : (t : Bool) → ltb n 10 ≡ t → all is_digit (digits_by f (n / 10)) ≡ true → all is_digit (pick t ((48 + n) ∷ []) (digits_by f (n / 10) ++ (48 + n % 10) ∷ [])) ≡ true
    go true e a = rw (digit_of n (ltb-true n 10 e))
    go false e a = all_append is_digit (digits_by f (n / 10)) ((48 + n % 10) ∷ []) a (rw (digit_of (n % 10) (omega arith)))

digits-some : (f n : ℕ) → 1 ≤ length (digits_by (suc f) n)
unfolding digits_by
digits-some f n = go (ltb n 10)
  where
    go : (t : Bool) → 1 ≤ length (pick t ((48 + n) ∷ []) (digits_by f (n / 10) ++ (48 + n % 10) ∷ []))
    go true = omega arith
    go false = rw (length-append (digits_by f (n / 10)) ((48 + n % 10) ∷ [])) (omega arith)

one_on : (v m : ℕ) → v ≡ m / 10 → v * 10 + (48 + m % 10 - 48) ≡ m
one_on v m e = omega arith

-- ---- at most five, and no zero in front
module _ (n : ℕ) (h : n < 100000) where
  abbrev five_digits : List ℕ
  five_digits = (48 + n / 10 / 10 / 10 / 10) ∷ (48 + n / 10 / 10 / 10 % 10) ∷ (48 + n / 10 / 10 % 10) ∷ (48 + n / 10 % 10) ∷ (48 + n % 10) ∷ []

  five_are : all is_digit five_digits ≡ true
  unfolding all
  five_are =
      let a : n / 10 < 10000 = omega arith in
      let b : n / 10 / 10 < 1000 = omega arith in
      let c : n / 10 / 10 / 10 < 100 = omega arith in
      rw (digit_of (n / 10 / 10 / 10 / 10) (omega arith), digit_of (n / 10 / 10 / 10 % 10) (omega arith), digit_of (n / 10 / 10 % 10) (omega arith), digit_of (n / 10 % 10) (omega arith), digit_of (n % 10) (omega arith))

  five_write : decimal five_digits ≡ n
  unfolding decimal_from
  five_write = one_on _ n (one_on _ (n / 10) (one_on _ (n / 10 / 10) (one_on _ (n / 10 / 10 / 10) (omega arith))))

  pub digits_few : length (digits_of n) ≤ 5
  digits_few = subst (λ (m : ℕ). length (digits_of m) ≤ 5) five_write (digits_fewest five_digits five_are (omega arith) (omega (arith, five_write)))

  no_zero : (x : List ℕ) → x ≡ digits_of n → all is_digit x ≡ true → get_or x 0 0 ≡ 48 → length x ≤ 1
  unfolding all decimal_from
  no_zero [] e a z = omega arith
  no_zero (b ∷ []) e a z = omega arith
  no_zero (b ∷ c ∷ s) e a z = absurd (omega (arith, shorter, ap length e))
    where
      value_is : decimal (c ∷ s) ≡ n
      value_is = ap (λ (d : ℕ). decimal_from (0 * 10 + (d - 48)) (c ∷ s)) (sym z) ∙ (ap decimal e ∙ digits-write n (omega arith))

      shorter : length (digits_of n) ≤ length (c ∷ s)
      shorter = subst (λ (m : ℕ). length (digits_of m) ≤ length (c ∷ s)) value_is (digits_fewest (c ∷ s) (both_true (is_digit b) (all is_digit (c ∷ s)) a).1 (omega arith) (omega (arith, value_is)))

  all_spanned : span is_digit (digits_of n) ≡ length (digits_of n)
  all_spanned = ap (span is_digit) (sym (append-nil (digits_of n))) ∙ span-whole is_digit (digits_of n) [] (digits-all 10 n) refl

  first_fine : either (eqb (length (digits_of n)) 1) (not (eqb (get_or (digits_of n) 0 0) 48)) ≡ true
  first_fine = go (eqb (get_or (digits_of n) 0 0) 48) refl
    where
      go : (t : Bool) → eqb (get_or (digits_of n) 0 0) 48 ≡ t → either (eqb (length (digits_of n)) 1) (not t) ≡ true
      go true e =
          let l : length (digits_of n) ≤ 1 = no_zero (digits_of n) refl (digits-all 10 n) (eqb-true (get_or (digits_of n) 0 0) 48 e) in
          rw (eq-eqb (length (digits_of n)) 1 (omega (arith, digits-some 9 n)))
      go false e = last (eqb (length (digits_of n)) 1)
        where
          last : (t : Bool) → either t true ≡ true
          last true = refl
          last false = refl

  digits_formed : well_formed (digits_of n) ≡ true
  digits_formed = rw (eq-eqb (span is_digit (digits_of n)) (length (digits_of n)) all_spanned, le-leb 1 (length (digits_of n)) (digits-some 9 n), le-leb (length (digits_of n)) 5 digits_few, first_fine)

-- ---- and a number of a trail is its digits
-- one digit more
digit_on : (f v d : ℕ) → 1 ≤ v → d < 10 → digits_by (suc f) (v * 10 + d) ≡ digits_by f v ++ (48 + d) ∷ []
unfolding digits_by
digit_on f v d h k =
    let q : (v * 10 + d) / 10 ≡ v = omega arith in
    let r : (v * 10 + d) % 10 ≡ d = omega arith in
    rw (le-ltb (v * 10 + d) 10 (omega arith), q, r)

one-digit : (f d : ℕ) → d < 10 → digits_by (suc f) d ≡ (48 + d) ∷ []
unfolding digits_by
one-digit f d h = rw (lt-ltb d 10 h)

-- digits behind a number that is written as x
digits_on : (y x : List ℕ) (f g v : ℕ) → all is_digit y ≡ true → 1 ≤ v → digits_by f v ≡ x → f + length y ≡ g → digits_by g (decimal_from v y) ≡ x ++ y
unfolding all decimal_from
digits_on [] x f g v a h e l = let z : g ≡ f = omega arith in rw z (e ∙ sym (append-nil x))
digits_on (b ∷ y) x f g v a h e l =
    let (p, q) = both_true (is_digit b) (all is_digit y) a in
    let (lo, hi) = digit_range b p in
    let c : 48 + (b - 48) ≡ b = omega arith in
    digits_on y (x ++ b ∷ []) (suc f) g (v * 10 + (b - 48)) q (omega arith) (digit_on f v (b - 48) h (omega arith) ∙ rw (e, c)) (omega arith) ∙ append_assoc x (b ∷ []) y

digits_are : (x : List ℕ) → all is_digit x ≡ true → 1 ≤ length x → length x ≤ 5 → (length x ≡ 1) ⊎ (get_or x 0 0 ≡ 48 → ⊥) → digits_of (decimal x) ≡ x
unfolding all decimal_from
digits_are [] a h k z = absurd (omega arith)
digits_are (b ∷ []) a h k z =
    let (p, q) = both_true (is_digit b) true a in
    let (lo, hi) = digit_range b p in
    let c : 48 + (0 * 10 + (b - 48)) ≡ b = omega arith in
    one-digit 9 (0 * 10 + (b - 48)) (omega arith) ∙ rw c
digits_are (b ∷ c ∷ y) a h k (inl z) = absurd (omega arith)
digits_are (b ∷ c ∷ y) a h k (inr z) =
    let (p, q) = both_true (is_digit b) (all is_digit (c ∷ y)) a in
    let (lo, hi) = digit_range b p in
    let d : 48 + (0 * 10 + (b - 48)) ≡ b = omega arith in
    let n : b ≡ 48 → ⊥ = z in
    digits_on (c ∷ y) (b ∷ []) (suc (9 - length (c ∷ y))) 10 (0 * 10 + (b - 48)) q (omega (arith, n)) (one-digit (9 - length (c ∷ y)) (0 * 10 + (b - 48)) (omega arith) ∙ rw d) (omega arith)

five_places : (n : ℕ) → n ≤ 5 → 10 ^ n ≤ 100000
five_places zero h = omega arith
five_places (suc zero) h = omega arith
five_places (suc (suc zero)) h = omega arith
five_places (suc (suc (suc zero))) h = omega arith
five_places (suc (suc (suc (suc zero)))) h = omega arith
five_places (suc (suc (suc (suc (suc zero))))) h = omega arith
five_places (suc (suc (suc (suc (suc (suc n)))))) h = absurd (omega arith)

pub formed_written : (x : List ℕ) → well_formed x ≡ true → (x ≡ digits_of (decimal x)) × (decimal x < 100000)
formed_written x e =
    let (p, q) = both_true (eqb (span is_digit x) (length x)) (both (both (leb 1 (length x)) (leb (length x) 5)) (either (eqb (length x) 1) (not (eqb (get_or x 0 0) 48)))) e in
    let (r, z) = both_true (both (leb 1 (length x)) (leb (length x) 5)) (either (eqb (length x) 1) (not (eqb (get_or x 0 0) 48))) q in
    let (lo, hi) = both_true (leb 1 (length x)) (leb (length x) 5) r in
    let a : all is_digit x ≡ true = subst (λ (y : List ℕ). all is_digit y ≡ true) (ap (λ (n : ℕ). take n x) (eqb-true (span is_digit x) (length x) p) ∙ take-length x) (span-all is_digit x) in
    let l = leb-true (length x) 5 hi in (
      sym (digits_are x a (leb-true 1 (length x) lo) l (first (either_true (eqb (length x) 1) (not (eqb (get_or x 0 0) 48)) z))),
      omega (arith, decimal-below x 0 a, five_places (length x) l),
    )
  where
    first : (eqb (length x) 1 ≡ true) ⊎ (not (eqb (get_or x 0 0) 48) ≡ true) → (length x ≡ 1) ⊎ (get_or x 0 0 ≡ 48 → ⊥)
    first (inl u) = inl (eqb-true (length x) 1 u)
    first (inr u) = inr (eqb-false (get_or x 0 0) 48 (not-true (eqb (get_or x 0 0) 48) u))

-- ---- the record of a step's line
module _ (p k : ℕ) (hp : p < 100000) (hk : k < 100000) where
  abbrev fields : List ℕ
  fields = digits_of p ++ tab ∷ digits_of k

  to_tab : span (is_not tab) fields ≡ length (digits_of p)
  to_tab = span-whole (is_not tab) (digits_of p) (tab ∷ digits_of k) (all-not tab (omega arith) (digits_of p) (digits-all 10 p)) refl

  first_field : field fields ≡ digits_of p
  first_field = ap (λ (m : ℕ). take m fields) to_tab ∙ take-append_seam (digits_of p) (tab ∷ digits_of k)

  second-field : behind_field fields ≡ digits_of k
  second-field = ap (λ (m : ℕ). drop (m + 1) fields) to_tab ∙ drop-append-add (digits_of p) (tab ∷ digits_of k) 1

  by_fields : (x y : List ℕ) → x ≡ digits_of p → y ≡ digits_of k → pick (both (well_formed x) (well_formed y)) (Step (decimal x) (decimal y)) Malformed ≡ Step p k
  by_fields x y ex ey = rw (ex, ey, digits_formed p hp, digits_formed k hk, digits-write p (omega arith), digits-write k (omega arith))

  pub line_read : record_of (step_line (record { process = p; choice = k })) ≡ Step p k
  line_read = by_fields (field fields) (behind_field fields) first_field second-field
