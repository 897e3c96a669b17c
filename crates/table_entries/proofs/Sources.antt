-- A spelling has at most 64 bytes, and a value fits.
use Prim.Native.Nat.{ℕ, ◌+◌, ◌-◌, ◌≤◌, min}
use mathlib.Core.Path.{◌≡◌, sym, ◌∙◌}
use mathlib.Core.Bool.{Bool, true, false}
use mathlib.Core.List.{List, []}
use native.Mathlib.Omega.{arith}
use lib.ListN.{length, get_or, length-take}
use lib.Dec.{eqb}
use borrow.Author.Tests.{eq-eqb, ne_eqb}
use Rattle.base_ceilings.specs.Ceilings.{number_most, string_most}
use Rattle.base_bytes.specs.Choice.{pick}
use Rattle.spec_text.specs.Digits.{decimal}
use Rattle.table_entries.specs.Sources.{clipped, bytes_of, value_of, entry_at}
use Rattle.base_codes.specs.Codes.{c_name, c_number, c_text}
use Rattle.base_bytes.specs.Lists.{piece}

clipped_most : (t : List ℕ) (a e : ℕ) → length (clipped t a e) ≤ string_most
clipped_most t a e = rw length-take (omega arith)

pub bytes_most : (t : List ℕ) (c a e : ℕ) → length (bytes_of t c a e) ≤ string_most
unfolding bytes_of
bytes_most t c a e = by (eqb c c_name) (eqb c c_text)
  where
    by : (x y : Bool) → length (pick x (clipped t a e) (pick y (clipped t (a + 1) (e - 1)) [])) ≤ string_most
    by true y = clipped_most t a e
    by false true = clipped_most t (a + 1) (e - 1)
    by false false = omega arith

module _ (t : List ℕ) (c a e : ℕ) where
  pub bytes-name : c ≡ c_name → {s : List ℕ} → s ≡ clipped t a e → s ≡ bytes_of t c a e
  unfolding bytes_of
  bytes-name h p = p ∙ sym (simp (eq-eqb _ _ h))

  pub bytes_string : (c ≡ c_name → ⊥) → c ≡ c_text → {s : List ℕ} {e1 : ℕ} → e1 ≡ e - 1 → s ≡ clipped t (a + 1) e1 → s ≡ bytes_of t c a e
  unfolding bytes_of
  bytes_string g h q p = p ∙ rw q (sym (simp (ne_eqb _ _ g, eq-eqb _ _ h)))

  pub bytes-none : (c ≡ c_name → ⊥) → (c ≡ c_text → ⊥) → [] ≡ bytes_of t c a e
  unfolding bytes_of
  bytes-none g h = sym (simp (ne_eqb _ _ g, ne_eqb _ _ h))

  pub value_some : c ≡ c_number → {s : List ℕ} {v : ℕ} → s ≡ piece t a e → v ≡ min (number_most + 1) (decimal s) → v ≡ value_of t c a e
  unfolding value_of
  value_some h p q = q ∙ rw p (sym (simp (eq-eqb _ _ h)))

  pub value_none : (c ≡ c_number → ⊥) → 0 ≡ value_of t c a e
  unfolding value_of
  value_none h = sym (simp (ne_eqb _ _ h))

module _ (text starts ends codes toks : List ℕ) (i : ℕ) {c t a e : ℕ} (et : t ≡ get_or toks i 0) (ec : c ≡ get_or codes i 0) (ea : a ≡ get_or starts t 0) (ee : e ≡ get_or ends t 0) where
  pub bytes_at : {s : List ℕ} → s ≡ bytes_of text c a e → s ≡ (entry_at text starts ends codes toks i).bytes
  unfolding entry_at
  bytes_at p = p ∙ rw (ea, ee, et, ec)

  pub value_at_lem : {v : ℕ} → v ≡ value_of text c a e → v ≡ (entry_at text starts ends codes toks i).value
  unfolding entry_at
  value_at_lem p = p ∙ rw (ea, ee, et, ec)
