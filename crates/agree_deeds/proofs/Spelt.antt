-- THE NAMES IN A STATEMENT, as the tables of an accepted text spell them, and where a reference has an index.
use Prim.Native.Nat.{ℕ, suc, ◌+◌, ◌-◌, ◌<◌}
use native.Mathlib.Omega.{arith}
use mathlib.Core.Path.{◌≡◌, refl, sym as inv, ap, ◌∙◌, subst}
use mathlib.Core.List.{List, [], ◌∷◌, ◌++◌, append_assoc}
use lib.ListN.{length, length-map, length-append}
use Rattle.base_codes.specs.Codes.{c_name}
use Rattle.base_codes.specs.Items.{Item, i_end, i_index, i_name, i_plain}
use Rattle.table_entries.specs.Entry.{Entry, nothing}
use Rattle.table_entries.specs.Items.{entry_of}
use Rattle.table_layout.specs.Access.{code_of, link_of}
use Rattle.table_layout.specs.Back.{bytes_back, entry_back}
use Rattle.table_layout.specs.Trees.{entries_in}
use Rattle.table_layout.proofs.Back.{entry-back}
use Rattle.table_proof.proofs.Accepted.{accepted_fair, accepted_small}
use Rattle.table_proof.proofs.Read.{get_only}
use Rattle.read_passes.specs.Judging.{tables_text}
use Rattle.read_accepts_proof.specs.Meaning.{Accepts, links_at}
use Rattle.read_accepts_proof.proofs.Tables.{text-tables}
use Rattle.write_letters.specs.Tokens.{spelled}
use Rattle.spec_grammar.specs.Tree.{Name, Ref, plain, indexed, Received, into, equal, exactly, exactly_true, exactly_false}
use Rattle.parse_code.specs.Code.{each, code_exp, code_received, code}
use Rattle.spec_machine.specs.Arguments.{name_of}
use Rattle.spec_account.specs.Steps.{index_text}
use Rattle.agree_stage.specs.Scenes.{size_in}
use Rattle.agree_stage.proofs.Stands.{lying_back}
use Rattle.agree_eval.proofs.Main.{items_long}
use Rattle.agree_effects.proofs.Parts.{Here, here_lies, first-inside, first_code}
use Rattle.agree_effects.proofs.Phrases.{linked_there}
use Rattle.agree_effects.proofs.Lists.{regroup, said, marked, received-code, marked-mark, behind_there}
use Rattle.show_deeds.specs.Deeds.{index_in}

module _ (t : List ℕ) (a : Accepts t) where
  abbrev xs : List Item
  xs = code a.tree

  abbrev T : List ℕ
  T = tables_text t

  entry_there : (x : Item) (l : List Item) (j : ℕ) → Here t a (x ∷ l) j → entry_back (tables_text t) j ≡ entry_of x
  entry_there x l j p =
      let h : j < length (code a.tree) = omega (arith, first-inside t a x l j p, items_long t a) in
      ap (λ (y : List ℕ). entry_back y j) (text-tables t a)
      ∙ entry-back (entries_in a.tree) (links_at t a) (accepted_fair t a.parts a.tree a.reads a.gram) (accepted_small t a.parts a.tree a.reads a.gram) j
      (omega (arith, first-inside t a x l j p, items_long t a, length-map (code a.tree) entry_of))
      ∙ get_only entry_of (code a.tree) j i_plain nothing h ∙ ap entry_of (here_lies t a (x ∷ l) j p).0

  -- a name with its bytes
  pub spelled_there : (w : Name) (l : List Item) (j : ℕ) → Here t a (i_name w ∷ l) j → spelled (tables_text t) j ≡ w
  unfolding entry_back bytes_back
  spelled_there w l j p =
      let e = entry_there (i_name w) l j p in
      let c : code_of T j ≡ c_name = ap Entry.code e in
      inv (rw c refl) ∙ ap Entry.bytes e

  -- a reference from item j to before m: its name, and its index where it has one
  pub record Told (r : Ref) (j m : ℕ) : Type 0 where
    pub spelt : spelled (tables_text t) j ≡ name_of r
    pub index : (n : ℕ) → index_in (tables_text t) (m - 1) n ≡ index_text r n

  pub reference_told : (r : Ref) (x : Item) (z : List Item) (j : ℕ) → Here t a (code_exp r ++ x ∷ z) j → Told r j (j + size_in r)
  reference_told (plain w) x z j p =
      let c = first_code t a i_plain (x ∷ z) (j + 1) (lying_back xs (i_name w ∷ []) (i_plain ∷ x ∷ z) 0 j (j + 1) refl p) in
      let e : j + 2 - 1 ≡ j + 1 = omega arith in
      record { spelt = spelled_there w (i_plain ∷ x ∷ z) j p; index = λ n. rw (e, c) }
  reference_told (indexed w i) x z j p =
      let X = code_exp i in
      let q = subst (λ l. Here t a l j) (append_assoc (i_name w ∷ X) (i_index ∷ []) (x ∷ z)) p in
      let c = first_code t a i_index (x ∷ z) (j + suc (length X)) (lying_back xs (i_name w ∷ X) (i_index ∷ x ∷ z) 0 j (j + suc (length X)) refl q) in
      let e : j + size_in (indexed w i) - 1 ≡ j + suc (length X) = omega (arith, length-append (i_name w ∷ X) (i_index ∷ [])) in
      record { spelt = spelled_there w (X ++ i_index ∷ x ∷ z) j q; index = λ n. rw (e, c) }

  -- ---- received arguments from item b on; one that is compared need not be told
  abbrev pub ToldOne : Received → ℕ → ℕ → Type 0
  ToldOne (into r) b m = Told r b m
  ToldOne (equal e) b m = Unit {0}
  ToldOne (exactly n) b m = Unit {0}
  ToldOne exactly_true b m = Unit {0}
  ToldOne exactly_false b m = Unit {0}

  abbrev pub ToldAll : List Received → ℕ → Type 0
  ToldAll [] b = Unit {0}
  ToldAll (x ∷ ys) b = ToldOne x b (link_of (tables_text t) b) × ToldAll ys (link_of (tables_text t) b + 1)

  one_told : (x : Received) (z : List Item) (b : ℕ) → Here t a (code_exp (said t a x) ++ marked t a x ∷ z) b → ToldOne x b (b + size_in (said t a x))
  one_told (into r) z b p = reference_told r (marked t a (into r)) z b p
  one_told (equal e) z b p = tt
  one_told (exactly n) z b p = tt
  one_told exactly_true z b p = tt
  one_told exactly_false z b p = tt

  pub received-told : (ys : List Received) (b : ℕ) → Here t a (each code_received ys ++ i_end ∷ []) b → ToldAll ys b
  received-told [] b p = tt
  received-told (x ∷ ys) b p =
      let X = code_exp (said t a x) in
      let y = marked t a x in
      let Y = each code_received ys in
      let r = subst (λ l. Here t a l b) (ap (λ l. (l ++ Y) ++ i_end ∷ []) (received-code t a x) ∙ regroup X y Y (i_end ∷ [])) p in
      let l = linked_there t a (said t a x) y (Y ++ i_end ∷ []) b r (marked-mark t a x).0 in (
        subst (ToldOne x b) (inv l) (one_told x (Y ++ i_end ∷ []) b r),
        subst (λ n. ToldAll ys (n + 1)) (inv l) (received-told ys (b + size_in (said t a x) + 1) (behind_there t a (said t a x) y (Y ++ i_end ∷ []) b r)),
      )
