-- One move of the writer's walk at a time: a token on top of the stack is written, a symbol at an item becomes its row.
use Prim.Native.Nat.{ℕ, zero, suc, ◌+◌, ◌-◌, ◌≤◌, ◌<◌}
use native.Mathlib.Omega.{arith}
use mathlib.Core.Path.{◌≡◌, refl, sym as inv, ◌∙◌, ap}
use mathlib.Core.Bool.{Bool, true, false}
use mathlib.Core.List.{List, [], ◌∷◌, ◌++◌}
use lib.ListN.{length, get_or, length-append}
use lib.Dec.{eqb, ltb}
use borrow.Author.Tests.{lt-ltb, le-ltb, eq-eqb, ne_eqb}
use Rattle.base_bytes.specs.Choice.{pick, both, either}
use Rattle.base_codes.specs.Codes.{c_name, c_number, c_text}
use Rattle.base_kinds.specs.Kinds.{Token, sym, name, number, text}
use Rattle.base_codes.specs.Items.{Item}
use Rattle.table_entries.specs.Items.{entry_of}
use Rattle.write_rows.specs.Rules.{rows}
use Rattle.write_texts.specs.Turning.{cell, row_from, row_of, laid, turned, is_token, kept, told, walk, after}
use Rattle.write_reprint_proof.specs.Here.{tok, flagged, Here}

module _ (h : ℕ → Token) (ms : List ℕ) where
  abbrev pub W : ℕ → List ℕ → List Token → List Token
  W i st out = walk (tok h) ms i st out

  pub emit : (v : ℕ) → is_token v ≡ true → (i : ℕ) (st : List ℕ) (out : List Token) → W i (v ∷ st) out ≡ W i st (tok h v ∷ out)
  unfolding walk kept told
  emit v e zero st out = rw e refl
  emit v e (suc i) st out = rw e refl

  pub go : (j i s c : ℕ) (st xs : List ℕ) (out : List Token) → j ≡ suc i → is_token s ≡ false → get_or ms i 0 ≡ c → turned s c i st ≡ xs → W j (s ∷ st) out ≡ W i xs out
  unfolding walk kept told
  go j i s c st xs out n e g r = rw (n, e, g, r) refl

  -- what item i holds
  pub tell : (i : ℕ) (t : Token) → h i ≡ t → (j : ℕ) (st : List ℕ) (out : List Token) → W j ((256 + i) ∷ st) out ≡ W j st (t ∷ out)
  tell i t e j st out =
      let z : 256 + i - 256 ≡ i = omega arith in
      emit (256 + i) (rw (le-ltb (256 + i) 70 (omega arith), lt-ltb 255 (256 + i) (omega arith))) j st out ∙ rw (le-ltb (256 + i) 70 (omega arith), z, e)

-- ---- items side by side
module _ (h : ℕ → Token) (ms : List ℕ) where
  pub here-front : (x y : List Item) (b : Bool) (i : ℕ) → Here h ms b i (x ++ y) → Here h ms b i x
  here-front [] y b i p = tt
  here-front (a ∷ x) y b i p = (p.0, p.1, p.2, here-front x y (after b (entry_of a).code) (suc i) p.3)

  pub here_back : (x y : List Item) (b : Bool) (i j : ℕ) → j ≡ i + length x → Here h ms b i (x ++ y) → Here h ms (flagged b x) j y
  here_back [] y b i j e p = let q : j ≡ i = omega arith in rw q p
  here_back (a ∷ x) y b i j e p = here_back x y (after b (entry_of a).code) (suc i) j (omega arith) p.3

-- ---- rows that write what the item holds
some_item : (i : ℕ) → eqb (256 + i) 0 ≡ false
some_item i = ne_eqb (256 + i) 0 (λ e. omega arith)

pub name-row : (i : ℕ) (st : List ℕ) → turned 120 c_name i st ≡ (256 + i) ∷ st
unfolding turned row_of row_from cell rows laid
name-row i st = rw (some_item i) refl

pub number-row : (i : ℕ) (st : List ℕ) → turned 120 c_number i st ≡ (256 + i) ∷ st
unfolding turned row_of row_from cell rows laid
number-row i st = rw (some_item i) refl

pub operand_row : (i : ℕ) (st : List ℕ) → turned 101 c_number i st ≡ (256 + i) ∷ st
unfolding turned row_of row_from cell rows laid
operand_row i st = rw (some_item i) refl

pub capacity_row : (i : ℕ) (st : List ℕ) → turned 124 c_number i st ≡ (256 + i) ∷ 23 ∷ 32 ∷ 135 ∷ st
unfolding turned row_of row_from cell rows laid
capacity_row i st = rw (some_item i) refl

pub format-row : (i : ℕ) (st : List ℕ) → turned 132 c_text i st ≡ (256 + i) ∷ 21 ∷ 60 ∷ st
unfolding turned row_of row_from cell rows laid
format-row i st = rw (some_item i) refl

pub format_comma_row : (i : ℕ) (st : List ℕ) → turned 133 c_text i st ≡ 27 ∷ (256 + i) ∷ 21 ∷ 60 ∷ st
unfolding turned row_of row_from cell rows laid
format_comma_row i st = rw (some_item i) refl

module _ (h : ℕ → Token) (ms : List ℕ) where
  -- a name or a number where one is asked for
  pub name-here : (j i : ℕ) (w : List ℕ) → j ≡ suc i → get_or ms i 0 ≡ c_name → h i ≡ name w → (st : List ℕ) (out : List Token) → W h ms j (120 ∷ st) out ≡ W h ms i st (name w ∷ out)
  name-here j i w n c e st out = go h ms j i 120 c_name st ((256 + i) ∷ st) out n refl c (name-row i st) ∙ tell h ms i (name w) e i st out

  pub number-here : (j i n : ℕ) → j ≡ suc i → get_or ms i 0 ≡ c_number → h i ≡ number n → (st : List ℕ) (out : List Token) → W h ms j (120 ∷ st) out ≡ W h ms i st (number n ∷ out)
  number-here j i n q c e st out = go h ms j i 120 c_number st ((256 + i) ∷ st) out q refl c (number-row i st) ∙ tell h ms i (number n) e i st out
