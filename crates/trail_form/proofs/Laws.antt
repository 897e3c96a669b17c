-- The laws that the proofs of single records cite.
use mathlib.Core.Path.{◌≡◌, sym, ap, ◌∙◌}
use mathlib.Core.Bool.{Bool, true, false, not}
use mathlib.Core.List.{List}
use Prim.Native.Nat.{ℕ, zero, suc, ◌+◌, ◌-◌, ◌*◌, ◌^◌, ◌≤◌, ◌<◌, min}
use native.Mathlib.Omega.{arith}
use native.Mathlib.Decide.{dec_le}
use borrow.Author.Tests.{eqb-true, leb-true, eq-eqb, ne_eqb}
use lib.Dec.{eqb, leb}
use lib.ListN.{length, get_or, take, drop, drop_of_length-le, get_or-eq_default}
use lib.Seq.{take_all}
use Rattle.base_bytes.specs.Choice.{both, either}
use Rattle.base_bytes.proofs.Tests.{both_true}
use Rattle.spec_text.specs.Bytes.{is_digit}
use Rattle.text_pieces.specs.Spans.{span}
use Rattle.spec_text.specs.Digits.{decimal}
use Rattle.text_pieces.proofs.Laws.{span_le, span_stop, span_more, tail-part}
use Rattle.text_spacing_proof.proofs.Spans.{span-all}
use Rattle.text_spacing_proof.proofs.Digits.{decimal-below}
use Rattle.spec_text.specs.Spelled.{all}
use Rattle.trail_form.specs.Records.{well_formed, is_not, field, behind_field, step_of}
use Rattle.spec_trails.specs.Trails.{tab}
use Rattle.trail_form.specs.declared.Record.TheVariants.{Step, Malformed}

-- ---- up to a byte
module _ (c : ℕ) (s : List ℕ) (i : ℕ) (h : i < length s) where
  pub stop_here : get_or s i 0 ≡ c → span (is_not c) (drop i s) ≡ 0
  stop_here e = span_stop (is_not c) s i h (rw (eq-eqb (get_or s i 0) c e))

  pub go_on : (get_or s i 0 ≡ c → ⊥) → span (is_not c) (drop i s) ≡ suc (span (is_not c) (drop (i + 1) s))
  go_on e = span_more (is_not c) s i h (rw (ne_eqb (get_or s i 0) c e))

-- ---- numbers
pub number_small : (x : List ℕ) → well_formed x ≡ true → decimal x < 100000
number_small x e =
    let (p, q) = both_true (eqb (span is_digit x) (length x)) (both (both (leb 1 (length x)) (leb (length x) 5)) (either (eqb (length x) 1) (not (eqb (get_or x 0 0) 48)))) e in
    let (r, _) = both_true (both (leb 1 (length x)) (leb (length x) 5)) (either (eqb (length x) 1) (not (eqb (get_or x 0 0) 48))) q in
    let (_, v) = both_true (leb 1 (length x)) (leb (length x) 5) r in
    let n : span is_digit x ≡ length x = eqb-true (span is_digit x) (length x) p in
    let a : all is_digit x ≡ true = ap (all is_digit) (sym (rw n (take_all (length x) x (omega arith)))) ∙ span-all is_digit x in
    below (length x) (leb-true (length x) 5 v) (decimal x) (decimal-below x 0 a)
  where
    below : (n : ℕ) → n ≤ 5 → (d : ℕ) → suc d ≤ 1 * 10 ^ n → d < 100000
    below zero h d k = omega arith
    below (suc zero) h d k = omega arith
    below (suc (suc zero)) h d k = omega arith
    below (suc (suc (suc zero))) h d k = omega arith
    below (suc (suc (suc (suc zero)))) h d k = omega arith
    below (suc (suc (suc (suc (suc zero))))) h d k = omega arith
    below (suc (suc (suc (suc (suc (suc n)))))) h d k = absurd (omega arith)

-- ---- parts
pub drop-least : (k : ℕ) (s : List ℕ) → drop (min k (length s)) s ≡ drop k s
drop-least k s = go (dec_le k (length s))
  where
    go : Dec (k ≤ length s) → drop (min k (length s)) s ≡ drop k s
    go (yes h) = let e : min k (length s) ≡ k = omega arith in rw e
    go (no h) = drop_of_length-le s {i = min k (length s)} (omega arith) ∙ sym (drop_of_length-le s {i = k} (omega arith))

-- the part behind a field
pub behind : (x : List ℕ) (n k : ℕ) → n ≡ span (is_not tab) x → k ≡ min (n + 1) (length x) → take (length x - k) (drop k x) ≡ behind_field x
behind x n k e q = tail-part k x ∙ rw (q, e) (drop-least (span (is_not tab) x + 1) x)

pub front : (x : List ℕ) (n : ℕ) → n ≡ span (is_not tab) x → take n x ≡ field x
front x n e = rw e

pub front_length : (x : List ℕ) (n : ℕ) → n ≡ span (is_not tab) x → n ≤ length x
front_length x n e = rw e (span_le (is_not tab) x)

module _ (x : List ℕ) where
  pub no_first : {b : Bool} → b ≡ well_formed (field x) → b ≡ false → Malformed ≡ step_of x
  no_first e h = rw (sym e ∙ h)

  pub no_second : {b c : Bool} → b ≡ well_formed (field x) → b ≡ true → c ≡ well_formed (behind_field x) → c ≡ false → Malformed ≡ step_of x
  no_second e h f k = rw (sym e ∙ h, sym f ∙ k)

  pub two-numbers : {b c : Bool} (p q : ℕ) → b ≡ well_formed (field x) → b ≡ true → c ≡ well_formed (behind_field x) → c ≡ true →
      p ≡ min 2147483648 (decimal (field x)) → q ≡ min 2147483648 (decimal (behind_field x)) → Step p q ≡ step_of x
  two-numbers p q e h f k ep eq =
      let u : decimal (field x) < 100000 = number_small (field x) (sym e ∙ h) in
      let v : decimal (behind_field x) < 100000 = number_small (behind_field x) (sym f ∙ k) in
      let pp : p ≡ decimal (field x) = omega arith in
      let qq : q ≡ decimal (behind_field x) = omega arith in
      rw (sym e ∙ h, sym f ∙ k, pp, qq)

-- a line that begins with a letter and a tab has two bytes
pub two_there : (x : List ℕ) (a : ℕ) → both (eqb (get_or x 0 0) a) (eqb (get_or x 1 0) tab) ≡ true → 2 ≤ length x
two_there x a e = go (dec_le 2 (length x))
  where
    tabbed : get_or x 1 0 ≡ tab
    tabbed = eqb-true (get_or x 1 0) tab (both_true (eqb (get_or x 0 0) a) (eqb (get_or x 1 0) tab) e).1

    go : Dec (2 ≤ length x) → 2 ≤ length x
    go (yes h) = h
    go (no h) = let z : get_or x 1 0 ≡ 0 = get_or-eq_default x 0 {n = 1} (omega arith) in omega (arith, tabbed)
