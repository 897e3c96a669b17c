-- Laws of words: a number digit by digit, a name byte by byte, a message field by field.
use Prim.Native.Nat.{ℕ, zero, suc, ◌+◌, ◌-◌, ◌≤◌, ◌<◌, ◌^◌}
use mathlib.Core.Path.{◌≡◌, refl, sym, ap, ◌∙◌}
use mathlib.Core.Bool.{true, false}
use mathlib.Core.List.{List, ◌++◌}
use native.Mathlib.Omega.{arith}
use lib.IntN.{ℤ, pos, negsuc}
use lib.Signed.{lt_z, mag}
use borrow.Author.Tests.{eq-eqb, ne_eqb, ltb-true}
use mir.Syntax.{w32}
use mir.Val.{to_z, of_z, SFits}
use mir.ValLaws.{to_z-of_z}
use Rattle.base_kinds.specs.Kinds.{bytes}
use Rattle.base_codes.specs.Codes.{c_init}
use Rattle.base_pens.specs.Pen.{Pen, write, puts}
use Rattle.base_pens.proofs.Pen.{puts-append}
use Rattle.spec_text.specs.Formats.{digits_by, decimal_of}
use Rattle.step_prints.specs.Printing.{size_of}
use Rattle.table_layout.specs.Access.{code_of}
use Rattle.state_layout.specs.Layout.{field_of}
use Rattle.state_layout.proofs.Laws.{back}
use Rattle.write_letters.specs.Tokens.{spelled}
use Rattle.spec_account.specs.States.{further_text, joined_text}
use Rattle.show_words.specs.Words.{title_in, fields_in, message_in}

-- ---- values
module _ (v : ℤ) (f : SFits w32 v) {n : ℕ} (en : n ≡ size_of (to_z w32 (of_z w32 v))) (w : Pen) where
  same : to_z w32 (of_z w32 v) ≡ v
  same = to_z-of_z w32 v f

  pub value_below : lt_z (to_z w32 (of_z w32 v)) (pos 0) ≡ true → {q r : Pen} → q ≡ write 45 w → r ≡ puts (digits_by 10 n) q → r ≡ puts (decimal_of v) w
  unfolding puts
  value_below e eq er = er ∙ (λ i. puts (digits_by 10 ((en ∙ ap size_of same) i)) (eq i)) ∙ go v (rw same at e)
    where
      go : (v : ℤ) → lt_z v (pos 0) ≡ true → puts (digits_by 10 (size_of v)) (write 45 w) ≡ puts (decimal_of v) w
      go (pos k) e = absurd (let h : k < 0 = ltb-true k 0 e in omega arith)
      go (negsuc k) e = refl

  pub value_above : lt_z (to_z w32 (of_z w32 v)) (pos 0) ≡ false → {r : Pen} → r ≡ puts (digits_by 10 n) w → r ≡ puts (decimal_of v) w
  value_above e er = er ∙ ap (λ n. puts (digits_by 10 n) w) (en ∙ ap size_of same) ∙ go v (rw same at e)
    where
      go : (v : ℤ) → lt_z v (pos 0) ≡ false → puts (digits_by 10 (size_of v)) w ≡ puts (decimal_of v) w
      go (pos k) e = refl
      go (negsuc k) e = absurd (let z : ◌≡◌ {A = ℕ} 0 1 = cc in omega arith)

-- ---- titles
module _ (t : List ℕ) (u c : ℕ) (w x : Pen) (e : c ≡ code_of t u) where
  pub title_init : c ≡ c_init → x ≡ puts (bytes "init") w → x ≡ puts (title_in t u) w
  title_init h g = rw (← e, eq-eqb c c_init h) g

  pub title_name : (i : ℕ) → (c ≡ c_init → ⊥) → i ≡ u - 1 → x ≡ puts (spelled t i) w → x ≡ puts (title_in t u) w
  title_name i h j g = rw (← e, ne_eqb c c_init h, ← j) g

-- ---- fields
module _ (s : List ℤ) (c m : ℕ) where
  -- the fields behind the first
  abbrev pub further : ℕ → ℕ → List ℕ
  further f n = further_text (fields_in s c m f n)

  pub fields-none : (n : ℕ) (w : Pen) → n ≡ 0 → w ≡ puts (joined_text (fields_in s c m 0 n)) w
  unfolding fields_in puts
  fields-none n w e = rw e

  pub fields-first : (n : ℕ) (v : ℤ) (w x : Pen) → (n ≡ 0 → ⊥) → mag v < 2 ^ 31 → v ≡ field_of s c m 0 → x ≡ puts (decimal_of (to_z w32 (of_z w32 v))) w
      → puts (further 1 (n - 1)) x ≡ puts (joined_text (fields_in s c m 0 n)) w
  unfolding fields_in
  fields-first zero v w x h b e g = absurd (h refl)
  fields-first (suc n) v w x h b e g =
      let q : suc n - 1 ≡ n = omega arith in
      rw q (ap (puts (further 1 n)) (g ∙ ap (λ z. puts (decimal_of z) w) (back b ∙ e)) ∙ sym (puts-append (decimal_of (field_of s c m 0)) (further 1 n) w))

  pub fields-more : (f n : ℕ) (v : ℤ) (w x y : Pen) → f < n → mag v < 2 ^ 31 → v ≡ field_of s c m f → x ≡ write 44 w → y ≡ puts (decimal_of (to_z w32 (of_z w32 v))) x
      → puts (further (f + 1) (n - (f + 1))) y ≡ puts (further f (n - f)) w
  unfolding fields_in further_text puts
  fields-more f n v w x y h b e g k =
      let q : n - f ≡ suc (n - (f + 1)) = omega arith in
      rw q (ap (puts (further (f + 1) (n - (f + 1)))) (k ∙ (λ i. puts (decimal_of ((back b ∙ e) i)) (g i))) ∙ sym (puts-append (decimal_of (field_of s c m f)) (further (f + 1) (n - (f + 1))) (write 44 w)))

  pub fields_end : (f n : ℕ) (w : Pen) → n ≤ f → puts (further f (n - f)) w ≡ w
  unfolding fields_in further_text puts
  fields_end f n w h = let q : n - f ≡ 0 = omega arith in rw q

  pub message-put : (n : ℕ) (w x y z : Pen) → x ≡ puts (bytes " (") w → y ≡ puts (joined_text (fields_in s c m 0 n)) x → z ≡ write 41 y → z ≡ puts (message_in s c m n) w
  unfolding puts
  message-put n w x y z e f g =
      g ∙ ap (write 41) (f ∙ ap (puts (joined_text (fields_in s c m 0 n))) e)
      ∙ sym (puts-append (bytes " (") (joined_text (fields_in s c m 0 n) ++ bytes ")") w ∙ puts-append (joined_text (fields_in s c m 0 n)) (bytes ")") (puts (bytes " (") w))
