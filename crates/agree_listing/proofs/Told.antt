-- WHAT TABLES TELL OF A TREE'S ITEMS: each whole, a name with its bytes; and so the name of a unit (`unit_titled`).
use Prim.Native.Nat.{ℕ, zero, suc, ◌+◌, ◌-◌, ◌<◌}
use native.Mathlib.Omega.{arith}
use mathlib.Core.Path.{◌≡◌, refl, sym as inv, ap, ◌∙◌, subst}
use mathlib.Core.List.{List, [], ◌∷◌, ◌++◌}
use lib.ListN.{length, get_or, length-map}
use borrow.Author.Tests.{eq-eqb, ne_eqb}
use Rattle.base_codes.specs.Codes.{c_init, c_name}
use Rattle.base_codes.specs.Items.{Item, i_name, i_active, i_active_many, i_init, i_plain, i_proctype}
use Rattle.base_codes.specs.Items as items
use Rattle.base_kinds.specs.Kinds.{bytes}
use Rattle.table_entries.specs.Entry.{Entry, nothing}
use Rattle.table_entries.specs.Items.{entry_of}
use Rattle.table_layout.specs.Access.{code_of}
use Rattle.table_layout.specs.Back.{bytes_back, entry_back}
use Rattle.table_layout.specs.Tables.{tables_of}
use Rattle.table_layout.specs.Trees.{entries_in}
use Rattle.table_layout.proofs.Back.{entry-back}
use Rattle.table_proof.proofs.Accepted.{accepted_fair, accepted_small}
use Rattle.table_proof.proofs.Read.{get_only}
use Rattle.read_passes.specs.Judging.{tables_text}
use Rattle.read_accepts_proof.specs.Meaning.{Accepts, links_at}
use Rattle.read_accepts_proof.proofs.Tables.{text-tables}
use Rattle.spec_grammar.specs.Tree.{Name, Activity, idle, once, times, Part, process, init, Model}
use Rattle.parse_code.specs.Code.{each, code_group, code_body, code_activity, code_part, code}
use Rattle.spec_machine.specs.Sizes.{size_activity, size_part}
use Rattle.spec_machine.specs.Names.{unit_at}
use Rattle.spec_machine.specs.Begins.{items_before}
use Rattle.spec_machine.specs.Places.{Bodied}
use Rattle.agree_sizes.proofs.Sizes.{size-part}
use Rattle.agree_encode.specs.Encode.{head_in, head_of}
use Rattle.agree_states.proofs.Sites.{bodied_there}
use Rattle.write_letters.specs.Tokens.{spelled}
use Rattle.spec_account.specs.Statements.{title_of}
use Rattle.show_words.specs.Words.{title_in}

module _ (T : List ℕ) where
  -- the items of the list are told one after the other, from item i on
  abbrev pub Told : ℕ → List Item → Type 0
  Told i [] = Unit {0}
  Told i (x ∷ l) = (entry_back T i ≡ entry_of x) × Told (suc i) l

  pub told-front : (i : ℕ) (x y : List Item) → Told i (x ++ y) → Told i x
  told-front i [] y h = tt
  told-front i (a ∷ x) y h = (h.0, told-front (suc i) x y h.1)

  pub told_back : (x y : List Item) (i j : ℕ) → j ≡ i + length x → Told i (x ++ y) → Told j y
  told_back [] y i j e h = subst (λ n. Told n y) (let q : i ≡ j = omega arith in q) h
  told_back (a ∷ x) y i j e h = told_back x y (suc i) j (omega arith) h.1

  told-all : (l : List Item) (i : ℕ) → ((k : ℕ) → k < length l → entry_back T (i + k) ≡ entry_of (get_or l k i_plain)) → Told i l
  told-all [] i f = tt
  told-all (x ∷ l) i f =
      (ap (entry_back T) (let z : i ≡ i + 0 = omega arith in z) ∙ f 0 (omega arith), told-all l (suc i) (λ k h. ap (entry_back T) (let z : suc i + k ≡ i + suc k = omega arith in z) ∙ f (suc k) (omega arith)))

  -- a code, and the bytes of a name
  pub told-code : (i : ℕ) (x : Item) → entry_back T i ≡ entry_of x → code_of T i ≡ items.code_of x
  unfolding entry_back
  told-code i x e = ap Entry.code e

  pub told-name : (i : ℕ) (w : Name) → entry_back T i ≡ entry_of (i_name w) → spelled T i ≡ w
  unfolding entry_back bytes_back
  told-name i w e = let c : code_of T i ≡ c_name = ap Entry.code e in inv (rw c refl) ∙ ap Entry.bytes e

  -- ---- units
  pub told-unit : (us : Model) (i : ℕ) → Told i (code us) → (k : ℕ) → k < length us → Told (i + items_before us k) (code_part (unit_at us k))
  unfolding items_before
  told-unit [] i h k g = absurd (omega arith)
  told-unit (u ∷ us) i h zero g = subst (λ n. Told n (code_part u)) (let z : i ≡ i + 0 = omega arith in z) (told-front i (code_part u) (code us) h)
  told-unit (u ∷ us) i h (suc k) g =
      subst (λ n. Told n (code_part (unit_at us k))) (let z : i + size_part u + items_before us k ≡ i + (size_part u + items_before us k) = omega arith in z)
      (told-unit us (i + size_part u) (told_back (code_part u) (code us) i (i + size_part u) (omega (arith, size-part u)) h) k (omega arith))

  -- the item d is no `init`, and the name w stands before it
  titled : (w : Name) (x : Item) (d j : ℕ) → d ≡ suc j → (items.code_of x ≡ c_init → ⊥) → entry_back T j ≡ entry_of (i_name w) → entry_back T (suc j) ≡ entry_of x → title_in T d ≡ w
  titled w x d j e n a b =
      let c : code_of T d ≡ items.code_of x = ap (code_of T) e ∙ told-code (suc j) x b in
      let z : d - 1 ≡ j = omega arith in
      rw (ne_eqb (code_of T d) c_init (λ q. n (inv c ∙ q))) (ap (spelled T) z ∙ told-name j w a)

  activity_titled : (a : Activity) (w : Name) (gs : List Item) (i : ℕ) → Told i (code_activity a w ++ gs) → title_in T (i + size_activity a - 1) ≡ w
  activity_titled idle w gs i h = titled w i_proctype (i + 2 - 1) i (omega arith) (λ z. omega arith) h.0 h.1.0
  activity_titled once w gs i h = titled w i_active (i + 2 - 1) i (omega arith) (λ z. omega arith) h.0 h.1.0
  activity_titled (times n) w gs i h = titled w i_active_many (i + 3 - 1) (suc i) (omega arith) (λ z. omega arith) h.1.0 h.1.1.0

  part_titled : (u : Part) (i : ℕ) → Bodied u → Told i (code_part u) → title_in T (head_in u i) ≡ title_of u
  part_titled (process a w gs b) i d h = activity_titled a w (each code_group gs) i (told-front i (code_activity a w ++ each code_group gs) (code_body b) h)
  part_titled (init b) i d h = rw (eq-eqb (code_of T i) c_init (told-code i i_init h.0))
  part_titled (Rattle.spec_grammar.specs.Tree.mtypes _) i d h = elim d [ ]
  part_titled (Rattle.spec_grammar.specs.Tree.global _) i d h = elim d [ ]

  -- THE NAME OF A UNIT is what stands before its first item
  pub unit_titled : (m : Model) → Told 0 (code m) → (k : ℕ) → Bodied (unit_at m k) → title_in T (head_of m k) ≡ title_of (unit_at m k)
  unit_titled m h k b =
      part_titled (unit_at m k) (items_before m k) b
      (subst (λ n. Told n (code_part (unit_at m k))) (let z : 0 + items_before m k ≡ items_before m k = omega arith in z) (told-unit m 0 h k (bodied_there m k b)))

-- THE TABLES OF AN ACCEPTED TEXT tell all of its items
pub text-told : (t : List ℕ) (a : Accepts t) → Told (tables_text t) 0 (code a.tree)
text-told t a =
    let m = a.tree in
    told-all (tables_text t) (code a.tree) 0
    (λ k h.
    ap (λ (T : List ℕ). entry_back T (0 + k)) (text-tables t a) ∙ ap (entry_back (tables_of (entries_in a.tree) (links_at t a))) (let z : 0 + k ≡ k = omega arith in z)
    ∙ entry-back (entries_in a.tree) (links_at t a) (accepted_fair t a.parts a.tree a.reads a.gram) (accepted_small t a.parts a.tree a.reads a.gram) k (let e = length-map (code a.tree) entry_of in omega arith)
    ∙ get_only entry_of (code a.tree) k i_plain nothing h)
