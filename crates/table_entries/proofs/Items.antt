-- An entry says which item it is of.
use Prim.Native.Nat.{ℕ, zero, suc, ◌+◌, ◌-◌, ◌≤◌, ◌<◌}
use mathlib.Core.Path.{◌≡◌, refl, sym, ◌∙◌, ap, ap₂, subst}
use mathlib.Core.Bool.{Bool, true}
use mathlib.Core.List.{List, [], ◌∷◌, map}
use native.Mathlib.Omega.{arith}
use lib.ListN.{get_or}
use borrow.Author.Tests.{ne_eqb, lt-ltb, le-ltb}
use Rattle.base_bytes.specs.Choice.{both}
use Rattle.base_bytes.proofs.Tests.{both_true}
use Rattle.base_codes.specs.Codes.{c_bit, c_complement, c_end_body, c_int, c_len, c_name, c_negate, c_not, c_number, c_or_else, c_plain, c_receive, c_send, c_text}
use Rattle.base_codes.specs.Items.{Item, i_name, i_text, i_number, i_type, i_binary, code_of}
use Rattle.spec_grammar.specs.Grammar.{is_len, is_bang, is_ask, is_minus, is_not, is_flip}
use Rattle.parse_tables.specs.Numbering.{mark, item}
use Rattle.table_entries.specs.Entry.{Entry, entry, runs, nothing}
use Rattle.table_entries.specs.Items.{entry_of, item_of, Known, is_name_lem, is_text, is_number, is_mark_lem, is_operator, Operator, queries, sends, receives, AllKnown, is_type, is_unary, is_binary}
use Rattle.table_entries.proofs.Runs.{runs_at}

abbrev marked : ℕ → Entry
marked x = entry x [] 0

abbrev written : ℕ → Entry
written x = entry_of (item x)

-- the entries of the items that productions write, all at once
in_order : runs written c_or_else 82 ≡ runs marked c_or_else 82
unfolding runs
in_order = refl

pub mark-entry : (x : ℕ) → c_or_else ≤ x → x ≤ c_end_body → entry_of (item x) ≡ entry x [] 0
mark-entry x a b =
    let e : c_or_else + (x - c_or_else) ≡ x = omega arith in
    ap written (sym e) ∙ sym (runs_at written c_or_else 82 (x - c_or_else) (omega arith)) ∙ ap (λ (l : List Entry). get_or l (x - c_or_else) nothing) in_order
    ∙ runs_at marked c_or_else 82 (x - c_or_else) (omega arith) ∙ ap marked e

-- ---- the item of a code
binary_item : (o : ℕ) → o ≤ 18 → item (146 + o) ≡ i_binary o
binary_item o a = let e : 146 + o - 146 ≡ o = omega arith in rw (lt-ltb (146 + o) c_negate (omega arith), e)

type_item : (k : ℕ) → 38 ≤ k → k ≤ 45 → item (130 + k) ≡ i_type k
type_item k a b =
    let e : 130 + k - 130 ≡ k = omega arith in
    rw (le-ltb (130 + k) c_negate (omega arith), le-ltb (130 + k) c_bit (omega arith), lt-ltb (130 + k) c_plain (omega arith), e)

mark-item : (c : ℕ) → c_plain ≤ c → item c ≡ mark c
mark-item c a = rw (le-ltb c c_negate (omega arith), le-ltb c c_bit (omega arith), le-ltb c c_plain (omega arith))

mark-back : (x : ℕ) → c_or_else ≤ x → item_of (entry x [] 0) ≡ item x
mark-back x a = simp (ne_eqb x c_name (λ z. omega arith), ne_eqb x c_number (λ z. omega arith), ne_eqb x c_text (λ z. omega arith))

item_back : {i : Item} → Known i → item_of (entry_of i) ≡ i
item_back (is_name_lem a b) = refl
item_back (is_text a b) = refl
item_back is_number = refl
item_back (is_type {k} a b) = mark-back (130 + k) (omega arith) ∙ type_item k a b
item_back (is_unary is_minus) = refl
item_back (is_unary is_not) = refl
item_back (is_unary is_flip) = refl
item_back (is_binary {o} a b) = mark-back (146 + o) (omega arith) ∙ binary_item o b
item_back (is_mark_lem {c} a b e) = mark-back c (omega arith) ∙ mark-item c a ∙ e
item_back (is_operator (queries is_len)) = refl
item_back (is_operator (sends is_bang)) = refl
item_back (is_operator (receives is_ask)) = refl

-- ---- the code of an operator's mark
pub operator_code : {c o : ℕ} → Operator c o → (c_plain ≤ c) × (c ≤ c_end_body)
operator_code (queries x) = (omega arith, omega arith)
operator_code (sends x) = (omega arith, omega arith)
operator_code (receives x) = (omega arith, omega arith)

-- ---- the code of a type
pub type_code : {k : ℕ} → Known (i_type k) → (c_bit ≤ code_of (i_type k)) × (code_of (i_type k) ≤ c_int)
type_code (is_type a b) = (omega arith, omega arith)

-- ---- a test that passes at each of the n items from code x on
abbrev pub passes : (Item → Bool) → ℕ → ℕ → Bool
passes p x zero = true
passes p x (suc n) = both (p (item x)) (passes p (suc x) n)

passes_at : (p : Item → Bool) (x n : ℕ) → passes p x n ≡ true → (j : ℕ) → j < n → p (item (x + j)) ≡ true
passes_at p x zero e j h = absurd (omega arith)
passes_at p x (suc n) e zero h = let z : x ≡ x + 0 = omega arith in subst (λ k. p (item k) ≡ true) z (both_true (p (item x)) (passes p (suc x) n) e).0
passes_at p x (suc n) e (suc j) h =
    let z : suc x + j ≡ x + suc j = omega arith in
    subst (λ k. p (item k) ≡ true) z (passes_at p (suc x) n (both_true (p (item x)) (passes p (suc x) n) e).1 j (omega arith))

written-passes : (p : Item → Bool) → passes p c_or_else 82 ≡ true → (y : ℕ) → c_or_else ≤ y → y ≤ c_end_body → {x : Item} → item y ≡ x → p x ≡ true
written-passes p e y a b q =
    let z : c_or_else + (y - c_or_else) ≡ y = omega arith in
    subst (λ i. p i ≡ true) (ap item z ∙ q) (passes_at p c_or_else 82 e (y - c_or_else) (omega arith))

-- what a test says of names, strings and numbers, and, computed, of all items that productions write, it says of every item of a text
pub known-passes : (p : Item → Bool) → ((w : List ℕ) → p (i_name w) ≡ true) → ((w : List ℕ) → p (i_text w) ≡ true) → ((n : ℕ) → p (i_number n) ≡ true) → passes p c_or_else 82 ≡ true
    → {x : Item} → Known x → p x ≡ true
known-passes p a b c e (is_name_lem {w} g h) = a w
known-passes p a b c e (is_text {w} g h) = b w
known-passes p a b c e (is_number {n}) = c n
known-passes p a b c e (is_type {k} g h) = written-passes p e (130 + k) (omega arith) (omega arith) (type_item k g h)
known-passes p a b c e (is_unary is_minus) = written-passes p e c_negate (omega arith) (omega arith) refl
known-passes p a b c e (is_unary is_not) = written-passes p e c_not (omega arith) (omega arith) refl
known-passes p a b c e (is_unary is_flip) = written-passes p e c_complement (omega arith) (omega arith) refl
known-passes p a b c e (is_binary {o} g h) = written-passes p e (146 + o) (omega arith) (omega arith) (binary_item o h)
known-passes p a b c e (is_mark_lem {c = y} g h i) = written-passes p e y (omega arith) (omega arith) (mark-item y g ∙ i)
known-passes p a b c e (is_operator (queries is_len)) = written-passes p e c_len (omega arith) (omega arith) refl
known-passes p a b c e (is_operator (sends is_bang)) = written-passes p e c_send (omega arith) (omega arith) refl
known-passes p a b c e (is_operator (receives is_ask)) = written-passes p e c_receive (omega arith) (omega arith) refl

items_back : (l : List Item) → AllKnown l → map item_of (map entry_of l) ≡ l
items_back [] k = refl
items_back (i ∷ l) k = ap₂ ◌∷◌ (item_back k.0) (items_back l k.1)

-- equal entries are of equal items
pub entries_injective : (l m : List Item) → AllKnown l → AllKnown m → map entry_of l ≡ map entry_of m → l ≡ m
entries_injective l m a b e = sym (items_back l a) ∙ ap (map item_of) e ∙ items_back m b
