-- The rows by their numbers, one after the other and row by row; the search for a row.
use Prim.Native.Nat.{ℕ, zero, suc, ◌+◌, ◌-◌, ◌*◌, ◌≤◌, ◌<◌}
use mathlib.Core.Path.{◌≡◌, refl, sym, ◌∙◌, ap}
use mathlib.Core.Bool.{Bool, true, false}
use mathlib.Core.List.{List, [], ◌∷◌}
use native.Mathlib.Omega.{arith}
use lib.ListN.{length, get_or}
use lib.Dec.{eqb}
use borrow.Author.Tests.{lt-ltb, le-ltb}
use Rattle.base_bytes.specs.Choice.{pick, both}
use Rattle.base_bytes.proofs.Tests.{true_false}
use Rattle.text_pens.proofs.Sheet.{wide, flat_at}
use Rattle.write_rows.specs.Rules.{rows, cells}
use Rattle.write_texts.specs.Turning.{cell, is_row, row_from, shared, row_of, laid, turned}

rows-wide : wide 10 rows ≡ true
unfolding rows
rows-wide = refl

rows-count : length rows ≡ 134
unfolding rows
rows-count = refl

pub cell_is : (t : List ℕ) (r k v w : ℕ) → t ≡ cells → k < 10 → w ≡ get_or t (10 * r + k) 0 → v ≡ w → v ≡ cell r k
unfolding cells cell
cell_is t r k v w q h e f = f ∙ e ∙ ap (λ (l : List ℕ). get_or l (10 * r + k) 0) q ∙ flat_at 10 rows rows-wide r k (10 * r + k) h refl

-- ---- the search: rows before r are not it
module _ (s c : ℕ) where
  pub row-start : row_from s c 0 (134 - 0) ≡ row_from s c 0 (length rows)
  row-start = rw rows-count

  pub row_more : (r : ℕ) (b : Bool) → r < 134 → b ≡ is_row s c r → b ≡ false → row_from s c (r + 1) (134 - (r + 1)) ≡ row_from s c r (134 - r)
  unfolding row_from
  row_more r b h e f = let q : 134 - r ≡ suc (134 - (r + 1)) = omega arith in rw (q, ← e, f)

  pub row_found : (r : ℕ) (b : Bool) → r < 134 → b ≡ is_row s c r → b ≡ true → r ≡ row_from s c r (134 - r)
  unfolding row_from
  row_found r b h e f = let q : 134 - r ≡ suc (134 - (r + 1)) = omega arith in rw (q, ← e, f)

  pub row-none : (r : ℕ) → 134 ≤ r → r ≡ row_from s c r (134 - r)
  unfolding row_from
  row-none r h = let q : 134 - r ≡ 0 = omega arith in rw q

pub row_is : (s c a r : ℕ) → a ≡ shared s → r ≡ row_from a c 0 (length rows) → r ≡ row_of s c
unfolding row_of
row_is s c a r e f = f ∙ rw e

-- ---- levels share their rows
pub shared-low : (s : ℕ) → s ≤ 100 → s ≡ shared s
shared-low s h = rw (le-ltb 100 s h)

pub shared_mid : (s : ℕ) → 100 < s → s < 113 → 101 ≡ shared s
shared_mid s h l = rw (lt-ltb 100 s h, lt-ltb s 113 l)

pub shared-high : (s : ℕ) → 100 < s → 113 ≤ s → s ≡ shared s
shared-high s h l = rw (lt-ltb 100 s h, le-ltb s 113 l)

-- ---- no row has code 0
coded : List (List ℕ) → Bool
coded [] = true
coded (x ∷ l) = pick (eqb (get_or x 1 0) 0) false (coded l)

coded_at : (l : List (List ℕ)) → coded l ≡ true → (r : ℕ) → r < length l → eqb (get_or (get_or l r []) 1 0) 0 ≡ false
unfolding coded
coded_at [] e r h = absurd (omega arith)
coded_at (x ∷ l) e zero h = first (eqb (get_or x 1 0) 0) e
  where
    first : (b : Bool) → pick b false (coded l) ≡ true → b ≡ false
    first true e = absurd (true_false (sym e))
    first false e = refl
coded_at (x ∷ l) e (suc r) h = coded_at l (rest (eqb (get_or x 1 0) 0) e) r (omega arith)
  where
    rest : (b : Bool) → pick b false (coded l) ≡ true → coded l ≡ true
    rest true e = absurd (true_false (sym e))
    rest false e = e

rows-coded : coded rows ≡ true
unfolding coded rows
rows-coded = refl

both_false : (b : Bool) → both b false ≡ false
both_false true = refl
both_false false = refl

no_row_from : (s r k : ℕ) → r + k ≡ 134 → row_from s 0 r k ≡ 134
unfolding row_from cell
no_row_from s r zero e = omega arith
no_row_from s r (suc k) e =
    rw (coded_at rows rows-coded r (omega (arith, rows-count)), both_false (eqb (get_or (get_or rows r []) 0 0) s)) (no_row_from s (r + 1) k (omega arith))

pub no_row : (s : ℕ) → row_of s 0 ≡ 134
unfolding row_of
no_row s = ap (row_from (shared s) 0 0) rows-count ∙ no_row_from (shared s) 0 134 refl

-- a blank item: the symbol goes
pub blank-row : (s i : ℕ) (st : List ℕ) → turned s 0 i st ≡ st
unfolding turned laid cell rows
blank-row s i st = rw (no_row s, both_false (eqb (shared s) 101)) refl
