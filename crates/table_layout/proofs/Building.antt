-- Laws of the builder: each pass over the items, one item at a time.
use Prim.Native.Nat.{ℕ, suc, ◌+◌, ◌-◌, ◌*◌, ◌/◌, ◌≤◌, min}
use mathlib.Core.Path.{◌≡◌, refl, sym, ◌∙◌}
use mathlib.Core.Bool.{Bool, true, false}
use mathlib.Core.List.{List, [], ◌∷◌, ◌++◌}
use native.Mathlib.Omega.{arith}
use native.Mathlib.Nat.{add_assoc, add-zero, zero-add}
use lib.ListN.{length, get_or, length-append}
use lib.Dec.{eqb}
use borrow.Author.Tests.{eq-eqb, ne_eqb}
use Rattle.base_ceilings.specs.Ceilings.{items_most}
use Rattle.base_bytes.specs.Choice.{pick}
use Rattle.base_pens.specs.Pen.{Pen, write, puts}
use Rattle.base_pens.specs.Pack.{Well, well, pour, settle}
use Rattle.base_pens.proofs.Pen.{puts-append}
use Rattle.base_pens.proofs.Pack.{pour-append, poured, length-packed}
use Rattle.table_entries.specs.Entry.{Entry, number, bytes, joined, runs}
use Rattle.table_entries.specs.Sources.{entry_at, entries_of}
use Rattle.table_entries.proofs.Runs.{runs-more, runs_end, length_runs, joined-more, joined_end}
use Rattle.table_layout.specs.Tables.{item_word, one, item_words, linked, numbers, pool, whole, tables_of}
use Rattle.base_codes.specs.Codes.{c_number}

pub code_at : (text starts ends codes toks : List ℕ) (i : ℕ) {c : ℕ} → c ≡ get_or codes i 0 → c ≡ (entry_at text starts ends codes toks i).code
unfolding entry_at
code_at text starts ends codes toks i e = e

pub one-yes : (c : ℕ) → c ≡ c_number → (1 ≡ one c) × (1 ≤ 1)
unfolding one
one-yes c h = (sym (simp (eq-eqb _ _ h)), omega arith)

pub one_no : (c : ℕ) → (c ≡ c_number → ⊥) → (0 ≡ one c) × (0 ≤ 1)
unfolding one
one_no c h = (sym (simp (ne_eqb _ _ h)), omega arith)

pub length-number : (e : Entry) → length (number e) ≡ one e.code
unfolding number one
length-number e = by (eqb e.code c_number)
  where
    by : (b : Bool) → length (pick b (e.value ∷ []) []) ≡ pick b 1 0
    by true = refl
    by false = refl

pub number-yes : (e : Entry) {c v : ℕ} (w : Pen) {w1 : Pen} → c ≡ e.code → c ≡ c_number → v ≡ e.value → w1 ≡ write v w → w1 ≡ puts (number e) w
unfolding number puts
number-yes e w ec h ev p = p ∙ rw ev (sym (simp (← ec, eq-eqb _ _ h)))

pub number_no : (e : Entry) {c : ℕ} (w : Pen) → c ≡ e.code → (c ≡ c_number → ⊥) → w ≡ puts (number e) w
unfolding number puts
number_no e w ec h = sym (simp (← ec, ne_eqb _ _ h))

pub linked-more : (ls : List ℕ) (i : ℕ) {k k1 v : ℕ} (w : Pen) {w1 : Pen} → k ≡ suc k1 → v ≡ get_or ls i 0 → w1 ≡ write v w → puts (linked ls i k) w ≡ puts (linked ls (i + 1) k1) w1
unfolding linked puts
linked-more ls i w e ev h = rw (e, h, ev)

pub linked_end : (ls : List ℕ) (i : ℕ) {k : ℕ} {w : Pen} → k ≡ 0 → puts (linked ls i k) w ≡ w
unfolding linked puts
linked_end ls i e = rw e

module _ (f : ℕ → Entry) (i : ℕ) where
  pub bytes-more : (sum : ℕ) {k k1 s : ℕ} → k ≡ suc k1 → s ≡ length (f i).bytes → sum + s + length (joined bytes (runs f (i + 1) k1)) ≡ sum + length (joined bytes (runs f i k))
  bytes-more sum {k1 = n} e h = rw (joined-more bytes f i {k1 = n} e, length-append, h, add_assoc)

  pub bytes_end : (sum : ℕ) {k : ℕ} → k ≡ 0 → sum ≡ sum + length (joined bytes (runs f i k))
  bytes_end sum e = rw (joined_end bytes f i e, add-zero)

  pub count-more : (sum : ℕ) {k k1 c s : ℕ} → k ≡ suc k1 → c ≡ (f i).code → s ≡ one c → sum + s + length (numbers (runs f (i + 1) k1)) ≡ sum + length (numbers (runs f i k))
  unfolding numbers
  count-more sum {k1 = n} e ec h = rw (joined-more number f i {k1 = n} e, length-append, h, ec, length-number, add_assoc)

  pub count_end : (sum : ℕ) {k : ℕ} → k ≡ 0 → sum ≡ sum + length (numbers (runs f i k))
  unfolding numbers
  count_end sum e = rw (joined_end number f i e, add-zero)

  pub items_more : (o j : ℕ) {k k1 c n v d : ℕ} (w : Pen) {w1 : Pen} → k ≡ suc k1 → c ≡ (f i).code → n ≡ length (f i).bytes → v ≡ item_word c n o j → d ≡ one c → w1 ≡ write v w
      → puts (item_words o j (runs f i k)) w ≡ puts (item_words (o + n) (j + d) (runs f (i + 1) k1)) w1
  unfolding item_words puts
  items_more o j {k1 = m} w e ec en ev ed h = rw (runs-more f i {k1 = m} e, h, ev, ed, en, ec)

  pub items_end : (o j : ℕ) {k : ℕ} {w : Pen} → k ≡ 0 → puts (item_words o j (runs f i k)) w ≡ w
  unfolding item_words puts
  items_end o j e = rw (runs_end f i e)

  pub numbers_more : {k k1 : ℕ} (w : Pen) {w1 : Pen} → k ≡ suc k1 → w1 ≡ puts (number (f i)) w → puts (numbers (runs f i k)) w ≡ puts (numbers (runs f (i + 1) k1)) w1
  unfolding numbers
  numbers_more {k1 = n} w e h = rw (joined-more number f i {k1 = n} e, puts-append (number (f i)) (joined number (runs f (i + 1) n)) w, ← h)

  pub numbers_end : {k : ℕ} {w : Pen} → k ≡ 0 → puts (numbers (runs f i k)) w ≡ w
  unfolding numbers puts
  numbers_end e = rw (joined_end number f i e)

  pub pool-more : {k k1 : ℕ} (w : Well) {w1 : Well} → k ≡ suc k1 → w1 ≡ pour (f i).bytes w → pour (joined bytes (runs f i k)) w ≡ pour (joined bytes (runs f (i + 1) k1)) w1
  pool-more {k1 = n} w e h = rw (joined-more bytes f i {k1 = n} e, pour-append (f i).bytes (joined bytes (runs f (i + 1) n)) w, ← h)

  pub pool_end : {k : ℕ} {w : Well} → k ≡ 0 → pour (joined bytes (runs f i k)) w ≡ w
  unfolding pour
  pool_end e = rw (joined_end bytes f i e)

pub pool-put : (es : List Entry) (w : Pen) {x : Well} {r : Pen} → x ≡ pour (joined bytes es) (well w 0 0 0 0) → r ≡ settle x → r ≡ puts (pool es) w
unfolding pool
pool-put es w e h = h ∙ rw e (poured (joined bytes es) w)

-- where each pass starts
none-off : (n : ℕ) → n - 0 ≡ n
none-off n = omega arith

module _ (f : ℕ → Entry) (n : ℕ) where
  pub bytes-start : 0 + length (joined bytes (runs f 0 (n - 0))) ≡ length (joined bytes (runs f 0 n))
  bytes-start = rw (none-off n, zero-add)

  pub count-start : 0 + length (numbers (runs f 0 (n - 0))) ≡ length (numbers (runs f 0 n))
  count-start = rw (none-off n, zero-add)

  pub items-start : (w : Pen) → puts (item_words 0 0 (runs f 0 (n - 0))) w ≡ puts (item_words 0 0 (runs f 0 n)) w
  items-start w = rw (none-off n)

  pub numbers-start : (w : Pen) → puts (numbers (runs f 0 (n - 0))) w ≡ puts (numbers (runs f 0 n)) w
  numbers-start w = rw (none-off n)

  pub pool-start : (w : Well) → pour (joined bytes (runs f 0 (n - 0))) w ≡ pour (joined bytes (runs f 0 n)) w
  pool-start w = rw (none-off n)

pub linked-start : (ls : List ℕ) (n : ℕ) (w : Pen) → puts (linked ls 0 (n - 0)) w ≡ puts (linked ls 0 n) w
linked-start ls n w = rw (none-off n)

-- all of it
pub length-pool : (es : List Entry) → length (pool es) ≡ (length (joined bytes es) + 3) / 4
unfolding pool
length-pool es = length-packed (joined bytes es)

parts : (es : List Entry) (ls : List ℕ) (w : Pen)
    → puts (tables_of es ls) w ≡ puts (pool es) (puts (numbers es) (puts (linked ls 0 (length es)) (puts (item_words 0 0 es)
    (write (length (pool es)) (write (length (numbers es)) (write (length es) (write (whole (length es) (length (numbers es)) (length (pool es))) w)))))))
unfolding tables_of puts
parts es ls w =
    puts-append (item_words 0 0 es) (linked ls 0 (length es) ++ (numbers es ++ pool es)) _
    ∙ puts-append (linked ls 0 (length es)) (numbers es ++ pool es) _
    ∙ puts-append (numbers es) (pool es) _

pub built : (es : List Entry) (ls : List ℕ) {n k b : ℕ} (w : Pen) {w1 w2 w3 w4 w5 w6 w7 w8 : Pen} → n ≡ length es → k ≡ length (numbers es) → b ≡ length (joined bytes es)
    → w1 ≡ write (4 + 2 * n + k + (b + 3) / 4) w → w2 ≡ write n w1 → w3 ≡ write k w2 → w4 ≡ write ((b + 3) / 4) w3
    → w5 ≡ puts (item_words 0 0 es) w4 → w6 ≡ puts (linked ls 0 n) w5 → w7 ≡ puts (numbers es) w6 → w8 ≡ puts (pool es) w7 → w8 ≡ puts (tables_of es ls) w
built es ls {n} {k} {b} w en ek eb e1 e2 e3 e4 e5 e6 e7 e8 =
    let ep : (b + 3) / 4 ≡ length (pool es) = rw eb (sym (length-pool es)) in
    rw (e8, e7, e6, e5, e4, e3, e2, e1, ep, ek, en) (sym (parts es ls w))

pub built_of : (text starts ends codes toks ls : List ℕ) {n : ℕ} (w : Pen) {r : Pen} → n ≡ min items_most (length codes) → r ≡ puts (tables_of (runs (entry_at text starts ends codes toks) 0 n) ls) w
    → r ≡ puts (tables_of (entries_of text starts ends codes toks) ls) w
unfolding entries_of
built_of text starts ends codes toks ls w e h = h ∙ rw e

pub runs-count : (f : ℕ → Entry) (n : ℕ) → n ≡ length (runs f 0 n)
runs-count f n = sym (length_runs f 0 n)
