-- THE TABLES HOLD THE ENTRIES AND THE LINKS: what each accessor gives over the tables of entries.
use Prim.Native.Nat.{ℕ, zero, suc, ◌+◌, ◌*◌, ◌/◌, ◌%◌, ◌<◌, min}
use mathlib.Core.Path.{◌≡◌, refl, sym, ◌∙◌, ap}
use mathlib.Core.Logic.{◌⊎◌, inl, inr}
use mathlib.Core.List.{List, [], ◌∷◌, ◌++◌}
use native.Mathlib.Omega.{arith}
use native.Mathlib.Nat.{add-zero, zero-add}
use lib.ListN.{length, get_or, take, length-append, get_or-append}
use lib.Seq.{get_or-append-add}
use borrow.Author.Tests.{eq-eqb, lt-ltb}
use Rattle.base_pens.specs.Pack.{Bytes}
use Rattle.base_pens.proofs.Pack.{unpacked}
use Rattle.table_entries.specs.Entry.{Entry, nothing, number, bytes, joined}
use Rattle.table_layout.specs.Tables.{argument, item_word, one, item_words, linked, numbers, pool, whole, tables_of, pool_most}
use Rattle.table_layout.specs.Access.{length_of, items_of, numbers_of, word_of, code_of, arg_of, link_of, number_of, name_length, pool_byte, name_byte}
use Rattle.table_layout.specs.Back.{Fair, AllFair, Small}
use Rattle.table_layout.proofs.Building.{length-number}
use Rattle.base_codes.specs.Codes.{c_name, c_number, c_text}

-- ## the parts
pub length-items : (o k : ℕ) (es : List Entry) → length (item_words o k es) ≡ length es
unfolding item_words
length-items o k [] = refl
length-items o k (e ∷ es) = omega (arith, length-items (o + length e.bytes) (k + one e.code) es)

pub length-linked : (ls : List ℕ) (i n : ℕ) → length (linked ls i n) ≡ n
unfolding linked
length-linked ls i zero = refl
length-linked ls i (suc n) = omega (arith, length-linked ls (i + 1) n)

linked_at : (ls : List ℕ) (i n j : ℕ) → j < n → get_or (linked ls i n) j 0 ≡ get_or ls (i + j) 0
unfolding linked
linked_at ls i zero j h = absurd (omega arith)
linked_at ls i (suc n) zero h = rw (add-zero)
linked_at ls i (suc n) (suc j) h = let e : i + 1 + j ≡ i + suc j = omega arith in linked_at ls (i + 1) n j (omega arith) ∙ rw e

-- ## what stands before item i
abbrev bytes_before : List Entry → ℕ → ℕ
bytes_before es i = length (joined bytes (take i es))

abbrev numbers_before : List Entry → ℕ → ℕ
numbers_before es i = length (joined number (take i es))

item_at : (es : List Entry) (o k i : ℕ) → i < length es
    → get_or (item_words o k es) i 0 ≡ item_word (get_or es i nothing).code (length (get_or es i nothing).bytes) (o + bytes_before es i) (k + numbers_before es i)
unfolding item_words joined
item_at [] o k i h = absurd (omega arith)
item_at (e ∷ es) o k zero h = rw (add-zero, add-zero)
item_at (e ∷ es) o k (suc i) h =
    let p : o + length e.bytes + bytes_before es i ≡ o + length (e.bytes ++ joined bytes (take i es)) = omega (arith, length-append e.bytes (joined bytes (take i es))) in
    let q : k + one e.code + numbers_before es i ≡ k + length (number e ++ joined number (take i es)) = omega (arith, length-append (number e) (joined number (take i es)), length-number e) in
    item_at es (o + length e.bytes) (k + one e.code) i (omega arith) ∙ rw (p, q)

joined_at : (g : Entry → List ℕ) (es : List Entry) (i k : ℕ) → i < length es → k < length (g (get_or es i nothing))
    → get_or (joined g es) (length (joined g (take i es)) + k) 0 ≡ get_or (g (get_or es i nothing)) k 0
unfolding joined
joined_at g [] i k h l = absurd (omega arith)
joined_at g (e ∷ es) zero k h l = rw zero-add (get_or-append (g e) (joined g es) 0 k l)
joined_at g (e ∷ es) (suc i) k h l =
    let p : length (g e ++ joined g (take i es)) + k ≡ length (g e) + (length (joined g (take i es)) + k) = omega (arith, length-append (g e) (joined g (take i es))) in
    rw (p, get_or-append-add) (joined_at g es i k (omega arith) l)

joined_in : (g : Entry → List ℕ) (es : List Entry) (i k : ℕ) → i < length es → k < length (g (get_or es i nothing)) → length (joined g (take i es)) + k < length (joined g es)
unfolding joined
joined_in g [] i k h l = absurd (omega arith)
joined_in g (e ∷ es) zero k h l = omega (arith, length-append (g e) (joined g es))
joined_in g (e ∷ es) (suc i) k h l = omega (arith, length-append (g e) (joined g es), length-append (g e) (joined g (take i es)), joined_in g es i k (omega arith) l)

pub fair_at : (es : List Entry) → AllFair es → (i : ℕ) → i < length es → Fair (get_or es i nothing)
fair_at [] f i h = absurd (omega arith)
fair_at (e ∷ es) f zero h = f.0
fair_at (e ∷ es) f (suc i) h = fair_at es f.1 i (omega arith)

bytes-append : (xs ys : List ℕ) → Bytes xs → Bytes ys → Bytes (xs ++ ys)
bytes-append [] ys p q = q
bytes-append (x ∷ xs) ys p q = (p.0, bytes-append xs ys p.1 q)

low-all : (es : List Entry) → AllFair es → Bytes (joined bytes es)
unfolding joined
low-all [] f = tt
low-all (e ∷ es) f = bytes-append e.bytes (joined bytes es) f.0.low (low-all es f.1)

-- ## an item's word, taken apart
word-code : (c n o k : ℕ) → c < 256 → item_word c n o k % 256 ≡ c
unfolding item_word
word-code c n o k h = omega arith

word-argument : (c n o k : ℕ) → c < 256 → item_word c n o k / 256 ≡ argument c n o k
unfolding item_word
word-argument c n o k h = omega arith

argument-number : (c n o k : ℕ) → c ≡ c_number → argument c n o k ≡ k
unfolding argument
argument-number c n o k h = simp (eq-eqb _ _ h)

argument-spelled : (c n o k : ℕ) → (c ≡ c_name) ⊎ (c ≡ c_text) → argument c n o k ≡ n + 128 * min pool_most o
unfolding argument
argument-spelled c n o k (inl h) = rw h
argument-spelled c n o k (inr h) = rw h

-- ## places in the tables
past_head : (a b c d : ℕ) (xs : List ℕ) (m : ℕ) → get_or (a ∷ b ∷ c ∷ d ∷ xs) (4 + m) 0 ≡ get_or xs m 0
past_head a b c d xs m = let e : 4 + m ≡ suc (suc (suc (suc m))) = omega arith in rw e

module _ (es : List Entry) (ls : List ℕ) where
  abbrev T : List ℕ
  T = tables_of es ls

  abbrev N : ℕ
  N = length es

  body_at : (m : ℕ) → get_or T (4 + m) 0 ≡ get_or (item_words 0 0 es ++ (linked ls 0 N ++ (numbers es ++ pool es))) m 0
  unfolding tables_of
  body_at m = past_head (whole N (length (numbers es)) (length (pool es))) N (length (numbers es)) (length (pool es)) (item_words 0 0 es ++ (linked ls 0 N ++ (numbers es ++ pool es))) m

  items_at : (i : ℕ) → i < N → get_or T (4 + i) 0 ≡ get_or (item_words 0 0 es) i 0
  items_at i h = body_at i ∙ get_or-append (item_words 0 0 es) (linked ls 0 N ++ (numbers es ++ pool es)) 0 i (omega (arith, length-items 0 0 es))

  links_at : (i m : ℕ) → i < N → m ≡ 4 + N + i → get_or T m 0 ≡ get_or (linked ls 0 N) i 0
  links_at i m h e =
      let p : m ≡ 4 + (length (item_words 0 0 es) + i) = omega (arith, length-items 0 0 es) in
      rw p (body_at (length (item_words 0 0 es) + i) ∙ get_or-append-add (item_words 0 0 es) (linked ls 0 N ++ (numbers es ++ pool es)) i 0 ∙ get_or-append (linked ls 0 N) (numbers es ++ pool es) 0 i (omega (arith, length-linked ls 0 N)))

  values_at : (i m : ℕ) → i < length (numbers es) → m ≡ 4 + 2 * N + i → get_or T m 0 ≡ get_or (numbers es) i 0
  values_at i m h e =
      let p : m ≡ 4 + (length (item_words 0 0 es) + (length (linked ls 0 N) + i)) = omega (arith, length-items 0 0 es, length-linked ls 0 N) in
      rw p (body_at (length (item_words 0 0 es) + (length (linked ls 0 N) + i)) ∙ get_or-append-add (item_words 0 0 es) (linked ls 0 N ++ (numbers es ++ pool es)) (length (linked ls 0 N) + i) 0
      ∙ get_or-append-add (linked ls 0 N) (numbers es ++ pool es) i 0 ∙ get_or-append (numbers es) (pool es) 0 i h)

  pool_at : (i m : ℕ) → m ≡ 4 + 2 * N + length (numbers es) + i → get_or T m 0 ≡ get_or (pool es) i 0
  pool_at i m e =
      let p : m ≡ 4 + (length (item_words 0 0 es) + (length (linked ls 0 N) + (length (numbers es) + i))) = omega (arith, length-items 0 0 es, length-linked ls 0 N) in
      rw p (body_at (length (item_words 0 0 es) + (length (linked ls 0 N) + (length (numbers es) + i))) ∙ get_or-append-add (item_words 0 0 es) (linked ls 0 N ++ (numbers es ++ pool es)) (length (linked ls 0 N) + (length (numbers es) + i)) 0
      ∙ get_or-append-add (linked ls 0 N) (numbers es ++ pool es) (length (numbers es) + i) 0 ∙ get_or-append-add (numbers es) (pool es) i 0)

  -- ## the header
  pub holds-length : length_of T ≡ length T
  unfolding tables_of
  holds-length =
      omega (arith, length-append (item_words 0 0 es) (linked ls 0 N ++ (numbers es ++ pool es)), length-append (linked ls 0 N) (numbers es ++ pool es), length-append (numbers es) (pool es), length-items 0 0 es, length-linked ls 0 N)

  pub holds-items : items_of T ≡ length es
  unfolding tables_of
  holds-items = refl

  holds-numbers : numbers_of T ≡ length (numbers es)
  unfolding tables_of
  holds-numbers = refl

  -- ## item i
  module _ (fair : AllFair es) (i : ℕ) (h : i < length es) where
    abbrev e : Entry
    e = get_or es i nothing

    word_is : word_of T i ≡ item_word e.code (length e.bytes) (bytes_before es i) (numbers_before es i)
    word_is = items_at i h ∙ item_at es 0 0 i h ∙ rw (zero-add, zero-add)

    pub holds-code : code_of T i ≡ (get_or es i nothing).code
    unfolding code_of
    holds-code = rw (lt-ltb i (items_of T) (rw holds-items h), word_is) (word-code _ _ _ _ (fair_at es fair i h).coded)

    arg_is : arg_of T i ≡ argument e.code (length e.bytes) (bytes_before es i) (numbers_before es i)
    arg_is = rw word_is (word-argument _ _ _ _ (fair_at es fair i h).coded)

    pub holds_link : link_of T i ≡ get_or ls i 0
    holds_link = links_at i (4 + items_of T + i) h (rw holds-items) ∙ linked_at ls 0 N i h ∙ rw zero-add

    pub holds-number : (get_or es i nothing).code ≡ c_number → number_of T i ≡ (get_or es i nothing).value
    unfolding number numbers
    holds-number c =
        let one_long : number e ≡ e.value ∷ [] = simp (eq-eqb _ _ c) in
        let l : 0 < length (number e) = rw one_long (omega arith) in
        let a : arg_of T i ≡ numbers_before es i + 0 = arg_is ∙ argument-number _ _ _ _ c ∙ sym (add-zero _) in
        values_at (numbers_before es i + 0) (4 + 2 * items_of T + arg_of T i) (joined_in number es i 0 h l) (rw (holds-items, a))
        ∙ joined_at number es i 0 h l ∙ ap (λ s. get_or s 0 0) one_long

    module _ (c : ((get_or es i nothing).code ≡ c_name) ⊎ ((get_or es i nothing).code ≡ c_text)) where
      spelled_arg : arg_of T i ≡ length e.bytes + 128 * min pool_most (bytes_before es i)
      spelled_arg = arg_is ∙ argument-spelled _ _ _ _ c

      pub holds_name_length : name_length T i ≡ length (get_or es i nothing).bytes
      holds_name_length = omega (arith, spelled_arg, (fair_at es fair i h).short)

      pub holds_name_byte : Small es → (k : ℕ) → k < length (get_or es i nothing).bytes → name_byte T i k ≡ get_or (get_or es i nothing).bytes k 0
      unfolding name_byte pool_byte pool
      holds_name_byte small k l =
          let j = bytes_before es i + k in
          let jn : j < length (joined bytes es) = joined_in bytes es i k h l in
          let a : arg_of T i / 128 + k ≡ j = omega (arith, spelled_arg, (fair_at es fair i h).short) in
          let g : k < name_length T i = omega (arith, holds_name_length) in
          rw (lt-ltb _ _ g, a, pool_at (j / 4) (4 + 2 * items_of T + numbers_of T + j / 4) (rw (holds-items, holds-numbers)))
          (unpacked (joined bytes es) (low-all es fair) j jn ∙ joined_at bytes es i k h l)
