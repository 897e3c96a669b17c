-- The items of an accepted text's tree stand in its tables.
use Prim.Native.Nat.{ℕ, zero, suc, ◌+◌, ◌≤◌, ◌<◌}
use native.Mathlib.Omega.{arith}
use mathlib.Core.Path.{◌≡◌, sym as inv, ap, ◌∙◌, subst}
use mathlib.Core.Logic.{inl, inr}
use mathlib.Core.List.{List, [], ◌∷◌, ◌++◌, map}
use lib.ListN.{length, get_or, length-map, length-append, get_or-append}
use lib.Seq.{get_or-append-add}
use borrow.Author.Tests.{lt-ltb, le-ltb}
use Rattle.base_ceilings.specs.Ceilings.{number_most}
use Rattle.base_codes.specs.Codes.{c_or_else, c_number}
use Rattle.base_kinds.specs.Kinds.{Token, sym, name, number, text}
use Rattle.spec_text.specs.Placed.{Placed}
use Rattle.spec_text.specs.Writing.{token_in, tokens_in}
use Rattle.text_spacing_proof.specs.Sound.{Sound, AllSound}
use Rattle.text_spacing_proof.proofs.Exact.{reading_exact}
use Rattle.text_spacing_proof.proofs.Written.{tokens-sound}
use Rattle.parse_tables.specs.Numbering.{item}
use Rattle.parse_machine.specs.Machine.{symbol_of, place_of}
use Rattle.parse_machine.specs.Items.{read, held}
use Rattle.table_entries.specs.Entry.{Entry, nothing}
use Rattle.table_entries.proofs.Items.{mark-entry}
use Rattle.table_layout.specs.Access.{code_of, link_of, number_of}
use Rattle.table_layout.specs.Trees.{entries_in, tables_in}
use Rattle.table_layout.proofs.Holds.{holds-code, holds_link, holds-number}
use Rattle.table_proof.specs.Read.{Right}
use Rattle.table_proof.proofs.Read.{get_only}
use Rattle.table_proof.proofs.Accepted.{accepted_fair}
use Rattle.table_proof.proofs.Wrote.{machine-right}
use Rattle.read_accepts_proof.specs.Meaning.{Accepts, links_at}
use Rattle.read_accepts_proof.proofs.Alike.{parsed_done}
use Rattle.agree_eval.specs.Held.{Held}
use Rattle.base_codes.specs.Items.{Item, i_plain}
use Rattle.parse_code.specs.Code.{code}
use Rattle.table_entries.specs.Items.{entry_of}
use Rattle.base_codes.specs.Items as items

-- ---- items side by side
pub held-front : (t : List ℕ) (i : ℕ) (x y : List Item) → Held t i (x ++ y) → Held t i x
held-front t i [] y h = tt
held-front t i (a ∷ x) y h = (h.0, h.1, held-front t (suc i) x y h.2)

pub held_back : (t : List ℕ) (x y : List Item) (i j : ℕ) → j ≡ i + length x → Held t i (x ++ y) → Held t j y
held_back t [] y i j e h = let q : i ≡ j = omega arith in subst (λ n. Held t n y) q h
held_back t (a ∷ x) y i j e h = held_back t x y (suc i) j (omega arith) h.2

-- ---- numbers of a text are within the ceiling
token_most : (c : Token) → Sound c → (entry_of (held c)).code ≡ c_number → (entry_of (held c)).value ≤ number_most
token_most (sym k) s e = absurd (omega arith)
token_most (name w) s e = absurd (omega arith)
token_most (number n) s e = s
token_most (text w) s e = absurd (omega arith)

sound_at : (ts : List Token) → AllSound ts → (k : ℕ) → k < length ts → Sound (get_or ts k (sym 0))
sound_at [] s k h = absurd (omega arith)
sound_at (c ∷ ts) s zero h = s.0
sound_at (c ∷ ts) s (suc k) h = sound_at ts s.1 k (omega arith)

module _ (t : List ℕ) (a : Accepts t) where
  abbrev pub ts : List Token
  ts = tokens_in t a.parts

  abbrev pub xs : List Item
  xs = code a.tree

  abbrev pub T : List ℕ
  T = tables_in a.tree (links_at t a)

  read_most : (v : ℕ) → Right a.parts (symbol_of v) (place_of v) → (entry_of (read ts v)).code ≡ c_number → (entry_of (read ts v)).value ≤ number_most
  read_most v (inl r) e =
      let q : read ts v ≡ held (get_or ts (place_of v) (sym 0)) = rw (lt-ltb (symbol_of v) c_or_else (omega (arith, r.1))) in
      subst (λ i. (entry_of i).value ≤ number_most) (inv q)
      (token_most (get_or ts (place_of v) (sym 0)) (sound_at ts (tokens-sound t a.parts a.reads) (place_of v) (omega (arith, r.2, length-map a.parts (token_in t))))
      (inv (ap (λ i. (entry_of i).code) q) ∙ e))
  read_most v (inr r) e =
      let q : read ts v ≡ item (symbol_of v) = rw (le-ltb (symbol_of v) c_or_else r.0) in
      let z : (entry_of (read ts v)).value ≡ 0 = ap (λ i. (entry_of i).value) q ∙ ap Entry.value (mark-entry (symbol_of v) r.0 r.1) in
      omega arith

  pub items-count : length a.numbers ≡ length xs
  items-count = inv (length-map a.numbers (read ts)) ∙ ap length a.coded

  pub item-read : (j : ℕ) → j < length xs → get_or xs j i_plain ≡ read ts (get_or a.numbers j 0)
  item-read j h = ap (λ (l : List Item). get_or l j i_plain) (inv a.coded) ∙ get_only (read ts) a.numbers j 0 i_plain (omega (arith, items-count))

  item_most : (j : ℕ) → j < length xs → (entry_of (get_or xs j i_plain)).code ≡ c_number → (entry_of (get_or xs j i_plain)).value ≤ number_most
  item_most j h e =
      subst (λ i. (entry_of i).value ≤ number_most) (inv (item-read j h))
      (read_most (get_or a.numbers j 0)
      (machine-right a.parts a.numbers ((reading_exact t a.parts).0 a.reads).2 (parsed_done (map Placed.kind a.parts) a.numbers a.written) j (omega (arith, items-count)))
      (inv (ap (λ i. (entry_of i).code) (item-read j h)) ∙ e))

  -- ---- item j of the tables
  module _ (j : ℕ) (h : j < length xs) where
    inside : j < length (entries_in a.tree)
    inside = omega (arith, length-map xs entry_of)

    entry_is : get_or (entries_in a.tree) j nothing ≡ entry_of (get_or xs j i_plain)
    entry_is = get_only entry_of xs j i_plain nothing h

    pub code-held : code_of T j ≡ items.code_of (get_or xs j i_plain)
    code-held =
        holds-code (entries_in a.tree) (links_at t a) (accepted_fair t a.parts a.tree a.reads a.gram) j inside ∙ ap Entry.code entry_is

    pub link_held : link_of T j ≡ get_or (links_at t a) j 0
    link_held = holds_link (entries_in a.tree) (links_at t a) (accepted_fair t a.parts a.tree a.reads a.gram) j inside

    number-held : items.code_of (get_or xs j i_plain) ≡ c_number → (number_of T j ≡ (entry_of (get_or xs j i_plain)).value) × ((entry_of (get_or xs j i_plain)).value ≤ number_most)
    number-held e =
        (holds-number (entries_in a.tree) (links_at t a) (accepted_fair t a.parts a.tree a.reads a.gram) j inside (ap Entry.code entry_is ∙ e) ∙ ap Entry.value entry_is, item_most j h e)

  all_held : (l : List Item) (i : ℕ) → ((j : ℕ) → j < length l → get_or xs (i + j) i_plain ≡ get_or l j i_plain) → i + length l ≤ length xs → Held T i l
  all_held [] i h k = tt
  all_held (x ∷ l) i h k =
      let z : i + 0 ≡ i = omega arith in
      let e : get_or xs i i_plain ≡ x = ap (λ n. get_or xs n i_plain) (inv z) ∙ h 0 (omega arith) in (
        code-held i (omega arith) ∙ ap items.code_of e,
        subst (λ y. items.code_of y ≡ c_number → (number_of T i ≡ (entry_of y).value) × ((entry_of y).value ≤ number_most)) e (number-held i (omega arith)),
        all_held l (suc i) (λ j g. let w : suc i + j ≡ i + suc j = omega arith in ap (λ n. get_or xs n i_plain) w ∙ h (suc j) (omega arith)) (omega arith),
      )

  -- items that stand between others
  pub part_held : (front l rest : List Item) → xs ≡ front ++ (l ++ rest) → Held T (length front) l
  part_held front l rest e =
      all_held l (length front) (λ j h. ap (λ (y : List Item). get_or y (length front + j) i_plain) e ∙ get_or-append-add front (l ++ rest) j i_plain ∙ get_or-append l rest i_plain j h)
      (omega (arith, ap length e, length-append front (l ++ rest), length-append l rest))
