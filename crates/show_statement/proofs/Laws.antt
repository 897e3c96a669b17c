-- The search for the last item, how long a text is that was written into an array, and what is shown of a statement that was written to a sheet.
use Prim.Native.Nat.{ℕ, suc, ◌+◌, ◌-◌, ◌≤◌, ◌<◌, min}
use native.Mathlib.Omega.{arith}
use native.Mathlib.Decide.{dec_lt}
use mathlib.Core.Path.{◌≡◌, refl, sym, ap, ◌∙◌}
use mathlib.Core.Bool.{Bool, true, false}
use mathlib.Core.List.{List, [], ◌++◌, append-nil}
use lib.ListN.{length, take, drop, replicate, length-append, length-replicate, drop_of_length-le}
use lib.Seq.{take-append_seam, take_all, length-take-le}
use Rattle.base_ceilings.specs.Ceilings.{items_most, normal_most}
use Rattle.base_pens.specs.Pen.{Pen, pen, puts}
use Rattle.base_pens.proofs.Pen.{puts_fit, puts-full, list_of, at_of}
use Rattle.base_bytes.specs.Lists.{piece}
use Rattle.spec_account.specs.Bytes.{each_visible}
use Rattle.spec_text.specs.Writing.{write}
use Rattle.rule_sheets.specs.Walks.{first}
use Rattle.table_layout.specs.Access.{items_of, code_of, link_of}
use Rattle.write_texts.specs.Normal.{tokens_between}
use Rattle.show_statement.specs.Statements.{ends_leaf, is_branching, leaf_end, last_of, statement_in, seen_in, length_from, place_in}

module _ (t : List ℕ) where
  abbrev pub ending : ℕ → Bool
  ending i = ends_leaf (code_of t i)

  pub leaf-start : (q n : ℕ) → n ≡ items_of t → first ending q (n - q) ≡ leaf_end t q
  unfolding leaf_end
  leaf-start q n e = ap (λ (k : ℕ). first ending q (k - q)) e

  pub leaf-more : (i n c r : ℕ) (b : Bool) → i < n → c ≡ code_of t i → b ≡ ends_leaf c → b ≡ false → first ending i (n - i) ≡ r → first ending (i + 1) (n - (i + 1)) ≡ r
  unfolding first
  leaf-more i n c r b h e f g y = let q : n - i ≡ suc (n - (i + 1)) = omega arith in rw (q, ← e, ← f, g) at y

  pub leaf_found : (i n c r : ℕ) (b : Bool) → i < n → c ≡ code_of t i → b ≡ ends_leaf c → b ≡ true → first ending i (n - i) ≡ r → i ≡ r
  unfolding first
  leaf_found i n c r b h e f g y = let q : n - i ≡ suc (n - (i + 1)) = omega arith in rw (q, ← e, ← f, g) at y

  pub leaf-none : (i n r : ℕ) → n ≤ i → first ending i (n - i) ≡ r → i ≡ r
  unfolding first
  leaf-none i n r h y = let q : n - i ≡ 0 = omega arith in rw q at y

  module _ (q c r : ℕ) (b : Bool) (e : c ≡ code_of t q) (f : b ≡ is_branching c) where
    pub last-linked : b ≡ true → r ≡ link_of t q → r ≡ last_of t q
    unfolding last_of
    last-linked g y = y ∙ rw (← e, ← f, g) refl

    pub last_leaf : b ≡ false → r ≡ leaf_end t q → r ≡ last_of t q
    unfolding last_of
    last_leaf g y = y ∙ rw (← e, ← f, g) refl

  pub statement_put : (q l m : ℕ) (w x : Pen) → l ≡ last_of t q → m ≡ min items_most l → x ≡ puts (write (tokens_between t 130 q (m + 1))) w → x ≡ puts (statement_in t q) w
  unfolding statement_in
  statement_put q l m w x e f g = g ∙ rw (f, e) refl

  -- the answer of a pen in an array is how much was written, or one more than there is room for
  pub length_is : (q n r : ℕ) (old new : List ℕ) → n ≡ items_of t → length old ≡ normal_most → pen new r ≡ puts (write (tokens_between t 143 q n)) (pen old 0) → r ≡ length_from t q
  unfolding length_from
  length_is q n r old new f l e = go (dec_lt (length old) (length u)) ∙ ap (λ (k : ℕ). min (normal_most + 1) (length (write (tokens_between t 143 q k)))) f
    where
      u : List ℕ
      u = write (tokens_between t 143 q n)

      go : Dec (length old < length u) → r ≡ min (normal_most + 1) (length u)
      go (yes k) = omega (arith, at_of (e ∙ puts-full u old k))
      go (no k) = omega (arith, at_of (e ∙ puts_fit u old (omega arith)))

  pub place_is : (q a b r : ℕ) → a ≡ length_from t 0 → b ≡ length_from t q → r ≡ a - b → r ≡ place_in t q
  unfolding place_in
  place_is q a b r e f g = g ∙ rw (e, f) refl

-- ---- what was written to a sheet of n zeros, as far as it fits
module _ (n : ℕ) (text l : List ℕ) (k : ℕ) (e : pen l k ≡ puts text (pen (replicate n 0) 0)) where
  whole_there : length text ≤ n → piece l 0 k ≡ take n text
  whole_there h =
      let z : List ℕ = replicate n 0 in
      let f = e ∙ puts_fit text z (omega (arith, length-replicate {A = ℕ} n 0)) in
      let a : k ≡ length text = at_of f in
      let b : l ≡ text ++ drop (length text) z = list_of f in
      let c : length l ≡ length text + length (drop (length text) z) = ap length b ∙ length-append text (drop (length text) z) in
      let i : min 0 (min k (length l)) ≡ 0 = omega arith in
      let j : min k (length l) - 0 ≡ length text = omega (arith, a, c) in
      rw (i, j, b) (take-append_seam text (drop (length text) z)) ∙ sym (take_all n text h)

  cut_there : n < length text → piece l 0 k ≡ take n text
  cut_there h =
      let z : List ℕ = replicate n 0 in
      let y : length z ≡ n = length-replicate {A = ℕ} n 0 in
      let f = e ∙ puts-full text z (omega (arith, y)) in
      let d : drop (length text) z ≡ [] = drop_of_length-le z {i = length text} (omega (arith, y)) in
      let a : k ≡ length z + 1 = at_of f in
      let b : l ≡ take n text = list_of f ∙ rw (d, y) (append-nil (take n text)) in
      let c : length l ≡ n = ap length b ∙ length-take-le n text (omega arith) in
      let i : min 0 (min k (length l)) ≡ 0 = omega arith in
      let j : min k (length l) - 0 ≡ length l = omega (arith, a, c, y) in
      rw (i, j) (take_all (length l) l (omega arith)) ∙ b

  sheet_there : piece l 0 k ≡ take n text
  sheet_there = by (dec_lt n (length text))
    where
      by : Dec (n < length text) → piece l 0 k ≡ take n text
      by (yes h) = cut_there h
      by (no h) = whole_there (omega arith)

pub seen_put : (t : List ℕ) (q : ℕ) (l s : List ℕ) (k : ℕ) (w x : Pen) → pen l k ≡ puts (statement_in t q) (pen (replicate normal_most 0) 0) → s ≡ piece l 0 k → x ≡ puts (each_visible s) w → x ≡ puts (seen_in t q) w
unfolding seen_in
seen_put t q l s k w x e f g = g ∙ ap (λ z. puts (each_visible z) w) (f ∙ sheet_there normal_most (statement_in t q) l k e)
