-- THE NORMAL TEXT OF A TREE'S TABLES IS THAT OF THE TREE, whatever the links are: document 01, "Normal text". Assumes nothing.
use Prim.Native.Nat.{ℕ, zero, suc, ◌+◌, ◌-◌, ◌≤◌, ◌<◌, min}
use native.Mathlib.Omega.{arith}
use native.Mathlib.Numerals.{add-one}
use mathlib.Core.Path.{◌≡◌, refl, sym as inv, ◌∙◌, ap, subst}
use mathlib.Core.Bool.{Bool, false, true}
use mathlib.Core.Logic.{inl, inr}
use mathlib.Core.List.{List, [], ◌∷◌, ◌++◌, append-nil, map}
use lib.ListN.{length, get_or, length-append, length-map}
use lib.Seq.{get_or_at}
use Rattle.base_ceilings.specs.Ceilings.{items_most}
use Rattle.base_codes.specs.Codes.{c_end_body, c_name, c_number, c_plain, c_text, c_len, c_send, c_receive}
use Rattle.base_kinds.specs.Kinds.{Token, name, number, text}
use Rattle.spec_text.specs.Writing.{write}
use Rattle.spec_grammar.specs.Tree.{Model}
use Rattle.spec_grammar.specs.Print.{print_model}
use Rattle.table_entries.specs.Entry.{Entry, entry, nothing}
use Rattle.table_entries.specs.Items.{entry_of, Known, is_name_lem, is_text, is_number, is_mark_lem, AllKnown, is_type, is_unary, is_binary, is_operator, queries, sends, receives}
use Rattle.table_entries.proofs.Items.{operator_code}
use Rattle.parse_tables.specs.Numbering.{mark}
use Rattle.table_layout.specs.Access.{items_of, code_of, number_of}
use Rattle.table_layout.specs.Back.{Small, bytes_back, value_back, entry_back}
use Rattle.table_layout.specs.Trees.{entries_in, tables_in}
use Rattle.table_layout.proofs.Holds.{holds-items}
use Rattle.table_layout.proofs.Back.{entry-back}
use Rattle.table_layout.proofs.Trees.{items-fair}
use Rattle.write_texts.specs.Turning.{marked, after, marks, told, walk}
use Rattle.write_letters.specs.Tokens.{spelled, held_of, token_by}
use Rattle.write_texts.specs.Normal.{codes_in, tokens_of, normal_of}
use Rattle.write_reprint_proof.specs.Here.{holds, tok, Sane, Here}
use Rattle.write_reprint_proof.proofs.Models.{walk-model}
use borrow.Author.Tests.{le-leb, ne_eqb}
use Rattle.spec_grammar.specs.Grammar.{is_minus, is_not, is_flip, is_len, is_bang, is_ask}
use Rattle.base_codes.specs.Items.{Item, i_name, i_text, i_number, i_type, i_unary, i_binary, i_mark, i_operator}
use Rattle.parse_code.specs.Code.{code}
use Rattle.base_bytes.proofs.Tests.{true_false}

-- a mark that holds no kind is none of an operator
abbrev operates : Item → Bool
operates (i_name w) = false
operates (i_text w) = false
operates (i_number n) = false
operates (i_type k) = false
operates (i_unary o) = false
operates (i_binary o) = false
operates (i_mark c) = false
operates (i_operator c o) = true

not_operator : (c d : ℕ) → mark c ≡ i_mark c → operates (mark d) ≡ true → c ≡ d → ⊥
not_operator c d e h z = true_false (inv h ∙ ap (λ x. operates (mark x)) (inv z) ∙ ap operates e)

-- ---- an item of a text has a number
known_sane : {x : Item} → Known x → Sane x
known_sane (is_name_lem a b) = inr (omega arith)
known_sane (is_text a b) = inr (omega arith)
known_sane is_number = inr (omega arith)
known_sane (is_type {k} a b) = inl (rw (le-leb 38 k a, le-leb k 45 b))
known_sane (is_unary is_minus) = inl refl
known_sane (is_unary is_not) = inl refl
known_sane (is_unary is_flip) = inl refl
known_sane (is_binary {o} a b) = inl (rw (le-leb 1 o a, le-leb o 18 b))
known_sane (is_mark_lem {c} a b e) =
    inl (rw (le-leb c_plain c a, le-leb c c_end_body b, ne_eqb c c_len (not_operator c c_len e refl), ne_eqb c c_send (not_operator c c_send e refl), ne_eqb c c_receive (not_operator c c_receive e refl)))
known_sane (is_operator (queries is_len)) = inl refl
known_sane (is_operator (sends is_bang)) = inl refl
known_sane (is_operator (receives is_ask)) = inl refl

-- ---- what the tables say an item holds
module _ (t : List ℕ) (j : ℕ) where
  held-name : (w : List ℕ) → entry_back t j ≡ entry c_name w 0 → held_of t j ≡ name w
  unfolding held_of entry_back bytes_back
  held-name w e =
      let c : code_of t j ≡ c_name = ap Entry.code e in
      let b : spelled t j ≡ w = inv (rw c refl) ∙ ap Entry.bytes e in
      rw (c, b) refl

  held-text : (w : List ℕ) → entry_back t j ≡ entry c_text w 0 → held_of t j ≡ text w
  unfolding held_of entry_back bytes_back
  held-text w e =
      let c : code_of t j ≡ c_text = ap Entry.code e in
      let b : spelled t j ≡ w = inv (rw c refl) ∙ ap Entry.bytes e in
      rw (c, b) refl

  held_number : (n : ℕ) → entry_back t j ≡ entry c_number [] n → held_of t j ≡ number n
  unfolding held_of entry_back value_back
  held_number n e =
      let c : code_of t j ≡ c_number = ap Entry.code e in
      let b : number_of t j ≡ n = inv (rw c refl) ∙ ap Entry.value e in
      rw (c, b) refl

  held-known : {x : Item} → Known x → entry_back t j ≡ entry_of x → (entry_of x).code ≤ c_text → held_of t j ≡ holds (entry_of x)
  held-known (is_name_lem {w = w} a b) e l = held-name w e
  held-known (is_text {w = w} a b) e l = held-text w e
  held-known (is_number {n = n}) e l = held_number n e
  held-known (is_type a b) e l = absurd (omega arith)
  held-known (is_unary is_minus) e l = absurd (omega arith)
  held-known (is_unary is_not) e l = absurd (omega arith)
  held-known (is_unary is_flip) e l = absurd (omega arith)
  held-known (is_binary a b) e l = absurd (omega arith)
  held-known (is_mark_lem a b c) e l = absurd (omega arith)
  held-known (is_operator x) e l = let p = operator_code x in absurd (omega arith)

-- ---- the items stand in the marked codes
module _ (t : List ℕ) where
  abbrev Facts : ℕ → List Item → Type 0
  Facts i [] = Unit {0}
  Facts i (x ∷ l) = (entry_back t i ≡ entry_of x) × Known x × Facts (suc i) l

  regroup : (p : List ℕ) (b : ℕ) (q : List ℕ) → (p ++ b ∷ []) ++ q ≡ p ++ b ∷ q
  regroup [] b q = refl
  regroup (c ∷ p) b q = rw (regroup p b q)

  code_of_lem : (i : ℕ) (x : Item) → entry_back t i ≡ entry_of x → code_of t i ≡ (entry_of x).code
  unfolding entry_back
  code_of_lem i x e = ap Entry.code e

  here-marks : (l : List Item) (pre : List ℕ) (b : Bool) (i k : ℕ) → k ≡ length l → i ≡ length pre → Facts i l → Here (held_of t) (pre ++ marks b (code_of t) i k) b i l
  unfolding marks
  here-marks [] pre b i k n e f = tt
  here-marks (x ∷ l) pre b i k n e f =
      let c = code_of_lem i x f.0 in
      let d = marked b (entry_of x).code in
      let rest = marks (after b (entry_of x).code) (code_of t) (suc i) (length l) in
      let m : marks b (code_of t) i (suc (length l)) ≡ d ∷ rest = rw (c, add-one) refl in
      let r = here-marks l (pre ++ d ∷ []) (after b (entry_of x).code) (suc i) (length l) refl (omega (arith, length-append pre (d ∷ []))) f.2 in
      let r' : Here (held_of t) (pre ++ d ∷ rest) (after b (entry_of x).code) (suc i) l = subst (λ (ms : List ℕ). Here (held_of t) ms (after b (entry_of x).code) (suc i) l) (regroup pre d rest) r in
      let all : Here (held_of t) (pre ++ d ∷ rest) b i (x ∷ l) = (get_or_at pre d rest 0 i (inv e), held-known t i f.1 f.0, known_sane f.1, r') in
      subst (λ (ms : List ℕ). Here (held_of t) ms b i (x ∷ l)) (inv (ap (pre ++◌) (ap (marks b (code_of t) i) n ∙ m))) all

pub length-marks : (b : Bool) (f : ℕ → ℕ) (i k : ℕ) → length (marks b f i k) ≡ k
unfolding marks
length-marks b f i zero = refl
length-marks b f i (suc k) = ap suc (length-marks (after b (f i)) f (i + 1) k)

-- ---- the tables of a tree
module _ (m : Model) (ls : List ℕ) (known : AllKnown (code m)) (small : Small (entries_in m)) where
  abbrev T : List ℕ
  T = tables_in m ls

  -- what stands at each place, for the items from place i on
  facts : (l : List Item) (i : ℕ) → AllKnown l → ((k : ℕ) → k < length l → get_or (entries_in m) (i + k) nothing ≡ get_or (map entry_of l) k nothing) → i + length l ≤ length (entries_in m) → Facts T i l
  facts [] i k e h = tt
  facts (x ∷ l) i k e h =
      let z : i + 0 ≡ i = omega arith in (
        entry-back (entries_in m) ls (items-fair (code m) known) small i (omega arith) ∙ ap (λ (n : ℕ). get_or (entries_in m) n nothing) (inv z) ∙ e 0 (omega arith),
        k.0,
        facts l (suc i) k.1 (λ n g. let q : suc i + n ≡ i + suc n = omega arith in ap (λ (n : ℕ). get_or (entries_in m) n nothing) q ∙ e (suc n) (omega arith)) (omega arith),
      )

  all_facts : Facts T 0 (code m)
  all_facts = facts (code m) 0 known (λ k h. let q : 0 + k ≡ k = omega arith in ap (λ (n : ℕ). get_or (entries_in m) n nothing) q) (omega (arith, length-map (code m) entry_of))

  abbrev M : List ℕ
  M = marks false (code_of T) 0 (length (code m))

  -- all items stand in them
  pub all_here : Here (held_of (tables_in m ls)) (marks false (code_of (tables_in m ls)) 0 (length (code m))) false 0 (code m)
  all_here = here-marks T (code m) [] false 0 (length (code m)) refl refl all_facts

  codes_are : length (entries_in m) ≤ items_most → codes_in T ≡ M
  unfolding codes_in
  codes_are few =
      let n : min items_most (items_of T) ≡ length (code m) = omega (arith, holds-items (entries_in m) ls, length-map (code m) entry_of) in
      ap (marks false (code_of T) 0) n

  -- nothing is left below
  bottom : (ts : List Token) → walk (tok (held_of T)) M 0 (143 ∷ []) ts ≡ ts
  unfolding walk told
  bottom ts = refl

  walked : walk (tok (held_of T)) M (length M) (143 ∷ []) [] ≡ print_model m
  walked =
      walk-model (held_of T) M m false 0 (length M) (omega (arith, length-marks false (code_of T) 0 (length (code m)))) all_here [] []
      ∙ bottom (print_model m ++ []) ∙ append-nil (print_model m)

  pub tokens_are : length (entries_in m) ≤ items_most → tokens_of T ≡ print_model m
  unfolding tokens_of token_by
  tokens_are few = ap (λ (cs : List ℕ). walk (tok (held_of T)) cs (length cs) (143 ∷ []) []) (codes_are few) ∙ walked

  pub normal_text_lem : length (entries_in m) ≤ items_most → normal_of (tables_in m ls) ≡ write (print_model m)
  normal_text_lem few = ap write (tokens_are few)
