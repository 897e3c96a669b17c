-- Laws of the pen, of digits and of a format.
use Rattle.std.specs.Prelude.{Result, Ok, Err}
use Prim.Native.Nat.{ℕ, zero, suc, ◌+◌, ◌-◌, ◌/◌, ◌%◌, ◌≤◌, ◌<◌, ◌^◌}
use mathlib.Core.Path.{◌≡◌, refl, sym, ap, ◌∙◌}
use mathlib.Core.Bool.{true, false}
use mathlib.Core.List.{List, [], ◌∷◌, ◌++◌}
use native.Mathlib.Omega.{arith}
use lib.ListN.{replicate}
use lib.IntN.{ℤ, pos, negsuc}
use lib.Signed.{lt_z, mag}
use lib.Dec.{ltb}
use borrow.Author.Tests.{ne_eqb, eq-eqb, lt-ltb, le-ltb, ltb-true}
use mir.Syntax.{w32}
use mir.Val.{to_z, of_z, SFits}
use mir.ValLaws.{to_z-of_z}
use Rattle.base_ceilings.specs.Ceilings.{numbers_most}
use Rattle.base_bytes.specs.Choice.{pick}
use Rattle.table_layout.specs.Access.{code_of, name_byte}
use Rattle.base_values.specs.declared.Fault.{Fault}
use Rattle.step_messages.specs.Messages.{gather_end, gather_list}
use Rattle.base_values.specs.Operators.{unary_of}
use Rattle.state_layout.proofs.Laws.{back}
use Rattle.state_layout.specs.Layout.{cell_of}
use Rattle.base_bytes.specs.Numbers.{nat}
use Rattle.step_prints.specs.Printing.{Pen, put_p, puts, size_of, written_from, text_of, unless_failed, printed_at}
use Rattle.spec_text.specs.Formats.{digits_by, decimal_of, escaped, formatted, opened, counted}
use Rattle.base_codes.specs.Codes.{c_text}

-- ---- the pen
pub puts-append : (xs ys : List ℕ) (w : Pen) → puts (xs ++ ys) w ≡ puts ys (puts xs w)
unfolding puts
puts-append [] ys w = refl
puts-append (x ∷ xs) ys w = puts-append xs ys (put_p x w)

pub puts_none : (w : Pen) → w ≡ puts [] w
unfolding puts
puts_none w = refl

puts_cons : (x : ℕ) (ys : List ℕ) (w : Pen) → puts (x ∷ ys) w ≡ puts ys (puts (x ∷ []) w)
unfolding puts
puts_cons x ys w = refl

-- ---- digits
digits_step : (f n : ℕ) → (f ≡ 0 → ⊥) → digits_by f n ≡ pick (ltb n 10) ((48 + n) ∷ []) (digits_by (f - 1) (n / 10) ++ (48 + n % 10) ∷ [])
unfolding digits_by
digits_step zero n h = absurd (h refl)
digits_step (suc f) n h = rw (pred_of f)
  where
    pred_of : (f : ℕ) → suc f - 1 ≡ f
    pred_of f = omega arith

module _ (f n : ℕ) (w : Pen) where
  pub digits-none : f ≡ 0 → w ≡ puts (digits_by f n) w
  unfolding digits_by puts
  digits-none e = rw e

  module _ (h : f ≡ 0 → ⊥) {d : ℕ} (ed : d ≡ 48 + n % 10) where
    pub digits-one : n < 10 → {r : Pen} → r ≡ puts (d ∷ []) w → r ≡ puts (digits_by f n) w
    digits-one g er =
        let z : 48 + n % 10 ≡ 48 + n = omega arith in
        er ∙ ap (λ d. puts (d ∷ []) w) (ed ∙ z)
        ∙ sym (ap (λ l. puts l w) (digits_step f n h ∙ ap (λ b. pick b ((48 + n) ∷ []) (digits_by (f - 1) (n / 10) ++ (48 + n % 10) ∷ [])) (lt-ltb n 10 g)))

    pub digits_more : 10 ≤ n → {q r : Pen} → q ≡ puts (digits_by (f - 1) (n / 10)) w → r ≡ puts (d ∷ []) q → r ≡ puts (digits_by f n) w
    digits_more g eq er =
        er ∙ (λ i. puts (ed i ∷ []) (eq i)) ∙ sym (puts-append (digits_by (f - 1) (n / 10)) ((48 + n % 10) ∷ []) w)
        ∙ sym (ap (λ l. puts l w) (digits_step f n h ∙ ap (λ b. pick b ((48 + n) ∷ []) (digits_by (f - 1) (n / 10) ++ (48 + n % 10) ∷ [])) (le-ltb n 10 g)))

-- ---- values
size_negative : (v : ℤ) → lt_z v (pos 0) ≡ true → nat (unary_of 20 v) + 1 ≡ size_of v
unfolding unary_of
size_negative (pos n) e = absurd (let h : n < 0 = ltb-true n 0 e in omega arith)
size_negative (negsuc n) e = refl

size_natural : (v : ℤ) → lt_z v (pos 0) ≡ false → nat v ≡ size_of v
size_natural (pos n) e = refl
size_natural (negsuc n) e = absurd (let z : ◌≡◌ {A = ℕ} 0 1 = cc in omega arith)

module _ (v : ℤ) (f : SFits w32 v) where
  same : to_z w32 (of_z w32 v) ≡ v
  same = to_z-of_z w32 v f

  pub size_below : lt_z (to_z w32 (of_z w32 v)) (pos 0) ≡ true → {x : ℤ} {r : ℕ} → mag x < 2 ^ 31 → x ≡ unary_of 20 (to_z w32 (of_z w32 v)) → r ≡ nat (to_z w32 (of_z w32 x)) → r + 1 ≡ size_of v
  size_below e h ex er = ap (λ a. a + 1) (er ∙ ap nat (back h ∙ ex ∙ ap (unary_of 20) same)) ∙ size_negative v (rw same at e)

  pub size_above : lt_z (to_z w32 (of_z w32 v)) (pos 0) ≡ false → {r : ℕ} → r ≡ nat (to_z w32 (of_z w32 v)) → r ≡ size_of v
  size_above e er = er ∙ ap nat same ∙ size_natural v (rw same at e)

  module _ (w : Pen) {n : ℕ} (en : n ≡ size_of (to_z w32 (of_z w32 v))) where
    size : n ≡ size_of v
    size = en ∙ ap size_of same

    pub number-below : lt_z (to_z w32 (of_z w32 v)) (pos 0) ≡ true → {q r : Pen} → q ≡ puts (45 ∷ []) w → r ≡ puts (digits_by 10 n) q → r ≡ puts (decimal_of v) w
    number-below e eq er = er ∙ (λ i. puts (digits_by 10 (size i)) (eq i)) ∙ go v (rw same at e)
      where
        go : (v : ℤ) → lt_z v (pos 0) ≡ true → puts (digits_by 10 (size_of v)) (puts (45 ∷ []) w) ≡ puts (decimal_of v) w
        go (pos k) e = absurd (let h : k < 0 = ltb-true k 0 e in omega arith)
        go (negsuc k) e = sym (puts_cons 45 (digits_by 10 (k + 1)) w)

    pub number-above : lt_z (to_z w32 (of_z w32 v)) (pos 0) ≡ false → {r : Pen} → r ≡ puts (digits_by 10 n) w → r ≡ puts (decimal_of v) w
    number-above e er = er ∙ ap (λ n. puts (digits_by 10 n) w) size ∙ go v (rw same at e)
      where
        go : (v : ℤ) → lt_z v (pos 0) ≡ false → puts (digits_by 10 (size_of v)) w ≡ puts (decimal_of v) w
        go (pos k) e = refl
        go (negsuc k) e = absurd (let z : ◌≡◌ {A = ℕ} 0 1 = cc in omega arith)

-- ---- one byte of a format
module _ (l : List ℤ) (was b k : ℕ) (w : Pen) where
  pub one-escaped : was ≡ 92 → {c : ℕ} {r : Pen} → c ≡ escaped b → r ≡ puts (c ∷ []) w → r ≡ puts (formatted l was b k) w
  unfolding formatted
  one-escaped e ec er = rw e (er ∙ ap (λ c. puts (c ∷ []) w) ec)

  module _ (h : was ≡ 92 → ⊥) where
    pub one_number : was ≡ 37 → b ≡ 100 → {v : ℤ} {r : Pen} → mag v < 2 ^ 31 → v ≡ cell_of l k → r ≡ puts (decimal_of (to_z w32 (of_z w32 v))) w → r ≡ puts (formatted l was b k) w
    unfolding formatted
    one_number e g hv ev er = rw (ne_eqb was 92 h, eq-eqb was 37 e, eq-eqb b 100 g) (er ∙ ap (λ z. puts (decimal_of z) w) (back hv ∙ ev))

    pub one_percent : was ≡ 37 → (b ≡ 100 → ⊥) → {r : Pen} → r ≡ puts (b ∷ []) w → r ≡ puts (formatted l was b k) w
    unfolding formatted
    one_percent e g er = rw (ne_eqb was 92 h, eq-eqb was 37 e, ne_eqb b 100 g) er

    module _ (h' : was ≡ 37 → ⊥) where
      pub one-backslash : b ≡ 92 → w ≡ puts (formatted l was b k) w
      unfolding formatted
      one-backslash e = rw (ne_eqb was 92 h, ne_eqb was 37 h', eq-eqb b 92 e) (puts_none w)

      pub one_opening : (b ≡ 92 → ⊥) → b ≡ 37 → w ≡ puts (formatted l was b k) w
      unfolding formatted
      one_opening g e = rw (ne_eqb was 92 h, ne_eqb was 37 h', ne_eqb b 92 g, eq-eqb b 37 e) (puts_none w)

      pub one_plain : (b ≡ 92 → ⊥) → (b ≡ 37 → ⊥) → {r : Pen} → r ≡ puts (b ∷ []) w → r ≡ puts (formatted l was b k) w
      unfolding formatted
      one_plain g e er = rw (ne_eqb was 92 h, ne_eqb was 37 h', ne_eqb b 92 g, ne_eqb b 37 e) er

-- ---- a format
module _ (t : List ℕ) (l : List ℤ) (j : ℕ) where
  pub format_end : (n i was k : ℕ) (w : Pen) → n ≡ 0 → w ≡ puts (written_from t l n j i was k) w
  unfolding written_from puts
  format_end n i was k w e = rw e

  pub format-more : (n n1 i was k : ℕ) (w : Pen) {b k' o : ℕ} {q : Pen} → n ≡ suc n1 → b ≡ name_byte t j i → q ≡ puts (formatted l was b k) w → k' ≡ counted was b k → o ≡ opened was b
      → puts (written_from t l n1 j (i + 1) o k') q ≡ puts (written_from t l n j i was k) w
  unfolding written_from
  format-more n n1 i was k w {b} en eb eq ek eo =
      (λ z. puts (written_from t l n1 j (i + 1) (eo z) (ek z)) (eq z))
      ∙ sym (puts-append (formatted l was b k) (written_from t l n1 j (i + 1) (opened was b) (counted was b k)) w)
      ∙ rw en (ap (λ x. puts (formatted l was x k ++ written_from t l n1 j (i + 1) (opened was x) (counted was x k)) w) eb)

-- ---- a step
module _ (t : List ℕ) (s : List ℤ) (p q : ℕ) (w : Pen) {c : ℕ} (ec : c ≡ code_of t q) where
  pub prints-none : (c ≡ c_text → ⊥) → w ≡ puts (printed_at t s p q) w
  unfolding printed_at
  prints-none h = rw (← ec, ne_eqb c c_text h) (puts_none w)

  module _ (e : c ≡ c_text) {g : Result ℕ Fault} (eg : g ≡ gather_end t s p numbers_most (q + 1)) where
    chosen : printed_at t s p q ≡ unless_failed g (text_of t (gather_list t s p numbers_most (q + 1) 0 (replicate numbers_most (pos 0))) q)
    unfolding printed_at
    chosen = rw (← ec, e) (ap (λ x. unless_failed x (text_of t (gather_list t s p numbers_most (q + 1) 0 (replicate numbers_most (pos 0))) q)) (sym eg))

    pub prints-fault : {f : Fault} → g ≡ Err f → w ≡ puts (printed_at t s p q) w
    prints-fault k = puts_none w ∙ ap (λ l. puts l w) (sym (chosen ∙ ap (λ x. unless_failed x (text_of t (gather_list t s p numbers_most (q + 1) 0 (replicate numbers_most (pos 0))) q)) k))

    pub prints-text : {z : ℕ} {l : List ℤ} {r : Pen} → g ≡ Ok z → l ≡ gather_list t s p numbers_most (q + 1) 0 (replicate numbers_most (pos 0)) → r ≡ puts (text_of t l q) w → r ≡ puts (printed_at t s p q) w
    prints-text k el er = er ∙ ap (λ l. puts (text_of t l q) w) el ∙ ap (λ l. puts l w) (sym (chosen ∙ ap (λ x. unless_failed x (text_of t (gather_list t s p numbers_most (q + 1) 0 (replicate numbers_most (pos 0))) q)) k))
