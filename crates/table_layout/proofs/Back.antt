-- THE TABLES DETERMINE THE ENTRIES: read back, they are the entries that were written.
use Prim.Native.Nat.{ℕ, zero, suc, ◌+◌, ◌<◌}
use mathlib.Core.Path.{◌≡◌, refl, sym, ◌∙◌, ap}
use mathlib.Core.Bool.{Bool, true, false}
use mathlib.Core.Logic.{◌⊎◌, inl, inr}
use mathlib.Core.List.{List, []}
use native.Mathlib.Omega.{arith}
use native.Mathlib.Nat.{add-zero, zero-add}
use lib.ListN.{length, get_or}
use lib.Seq.{ext_get_or}
use lib.Dec.{eqb}
use borrow.Author.Tests.{eqb-true, eqb-false}
use Rattle.base_codes.specs.Codes.{c_name, c_number, c_text}
use Rattle.base_bytes.specs.Choice.{pick}
use Rattle.table_entries.specs.Entry.{Entry, nothing, runs}
use Rattle.table_entries.proofs.Runs.{length_runs, runs_at}
use Rattle.table_layout.specs.Tables.{tables_of}
use Rattle.table_layout.specs.Access.{link_of, number_of, name_length, name_byte}
use Rattle.table_layout.specs.Back.{AllFair, Small, upto, bytes_back, value_back, entry_back, entries_back}
use Rattle.table_layout.proofs.Holds.{fair_at, holds-items, holds-code, holds_link, holds-number, holds_name_length, holds_name_byte}

upto_at : (f : ℕ → ℕ) (i n j : ℕ) → j < n → get_or (upto f i n) j 0 ≡ f (i + j)
unfolding upto
upto_at f i zero j h = absurd (omega arith)
upto_at f i (suc n) zero h = rw add-zero
upto_at f i (suc n) (suc j) h = let e : i + 1 + j ≡ i + suc j = omega arith in upto_at f (i + 1) n j (omega arith) ∙ rw e

length-upto : (f : ℕ → ℕ) (i n : ℕ) → length (upto f i n) ≡ n
unfolding upto
length-upto f i zero = refl
length-upto f i (suc n) = omega (arith, length-upto f (i + 1) n)

-- a list that f gives
upto_is : (f : ℕ → ℕ) (n : ℕ) (s : List ℕ) → n ≡ length s → ((k : ℕ) → k < length s → f k ≡ get_or s k 0) → upto f 0 n ≡ s
upto_is f n s e h =
    ext_get_or 0 (upto f 0 n) s (length-upto f 0 n ∙ e)
    (λ k l. let g : k < n = omega (arith, l, length-upto f 0 n) in upto_at f 0 n k g ∙ ap f (zero-add k) ∙ h k (omega arith))

module _ (es : List Entry) (ls : List ℕ) (fair : AllFair es) (small : Small es) (i : ℕ) (h : i < length es) where
  abbrev T : List ℕ
  T = tables_of es ls

  abbrev e : Entry
  e = get_or es i nothing

  spelled_back : (e.code ≡ c_name) ⊎ (e.code ≡ c_text) → upto (name_byte T i) 0 (name_length T i) ≡ e.bytes
  spelled_back c = upto_is (name_byte T i) (name_length T i) e.bytes (holds_name_length es ls fair i h c) (holds_name_byte es ls fair i h c small)

  strings : (b : Bool) → eqb e.code c_text ≡ b → (e.code ≡ c_name → ⊥) → pick b (upto (name_byte T i) 0 (name_length T i)) [] ≡ e.bytes
  strings true t n = spelled_back (inr (eqb-true _ _ t))
  strings false t n = sym ((fair_at es fair i h).bare n (eqb-false _ _ t))

  names : (b : Bool) → eqb e.code c_name ≡ b → pick b (upto (name_byte T i) 0 (name_length T i)) (pick (eqb e.code c_text) (upto (name_byte T i) 0 (name_length T i)) []) ≡ e.bytes
  names true t = spelled_back (inl (eqb-true _ _ t))
  names false t = strings (eqb e.code c_text) refl (eqb-false _ _ t)

  bytes_back_lem : bytes_back T i ≡ e.bytes
  unfolding bytes_back
  bytes_back_lem = rw (holds-code es ls fair i h) (names (eqb e.code c_name) refl)

  values : (b : Bool) → eqb e.code c_number ≡ b → pick b (number_of T i) 0 ≡ e.value
  values true t = holds-number es ls fair i h (eqb-true _ _ t)
  values false t = sym ((fair_at es fair i h).still (eqb-false _ _ t))

  value_back_lem : value_back T i ≡ e.value
  unfolding value_back
  value_back_lem = rw (holds-code es ls fair i h) (values (eqb e.code c_number) refl)

  pub entry-back : entry_back T i ≡ get_or es i nothing
  unfolding entry_back
  entry-back = rw (holds-code es ls fair i h, bytes_back_lem, value_back_lem)

-- the tables of entries, read back, are the entries
pub read_back : (es : List Entry) (ls : List ℕ) → AllFair es → Small es → entries_back (tables_of es ls) ≡ es
unfolding entries_back
read_back es ls fair small =
    rw (holds-items es ls)
    (ext_get_or nothing (runs (entry_back (tables_of es ls)) 0 (length es)) es (length_runs (entry_back (tables_of es ls)) 0 (length es))
    (λ k l. let g : k < length es = omega (arith, l, length_runs (entry_back (tables_of es ls)) 0 (length es)) in
    runs_at (entry_back (tables_of es ls)) 0 (length es) k g ∙ ap (entry_back (tables_of es ls)) (zero-add k) ∙ entry-back es ls fair small k g))

-- so equal tables are of equal entries
pub tables_determine : (es fs : List Entry) (ls ms : List ℕ) → AllFair es → AllFair fs → Small es → Small fs → tables_of es ls ≡ tables_of fs ms → es ≡ fs
tables_determine es fs ls ms a b p q t = sym (read_back es ls a p) ∙ ap entries_back t ∙ read_back fs ms b q

-- and of equal links, as far as there are items
pub links_determine : (es fs : List Entry) (ls ms : List ℕ) → AllFair es → AllFair fs → Small es → Small fs → tables_of es ls ≡ tables_of fs ms
    → (i : ℕ) → i < length es → get_or ls i 0 ≡ get_or ms i 0
links_determine es fs ls ms a b p q t i h =
    let e : es ≡ fs = tables_determine es fs ls ms a b p q t in
    sym (holds_link es ls a i h) ∙ ap (λ l. link_of l i) t ∙ holds_link fs ms b i (rw (← e) h)
