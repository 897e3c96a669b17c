-- A PROCESS BEGINS AS THE TREE SAYS: for every unit of an accepted text, the process that the tables make is the tree's, at its first statement and with its variables.
use Prim.Native.Nat.{ℕ, suc, ◌+◌, ◌-◌, ◌<◌}
use native.Mathlib.Omega.{arith}
use mathlib.Core.Path.{◌≡◌, refl, ap, ◌∙◌, subst}
use mathlib.Core.List.{List, [], ◌∷◌, ◌++◌, append_assoc}
use lib.ListN.{length, set}
use lib.IntN.{ℤ}
use lib.Dec.{ltb}
use borrow.Author.Tests.{ne_eqb}
use Rattle.base_ceilings.specs.Ceilings.{processes_most}
use Rattle.base_codes.specs.Codes.{c_body, c_declared, c_group, c_local, c_parameter, c_name}
use Rattle.base_bytes.specs.Choice.{pick}
use Rattle.spec_grammar.specs.Tree.{Name, Group, group, Body, body}
use Rattle.table_layout.specs.Access.{code_of, link_of}
use Rattle.read_accepts_proof.specs.Meaning.{Accepts}
use Rattle.read_passes.specs.Judging.{tables_text}
use Rattle.state_layout.specs.Layout.{kept, process_at_lem, processes_of}
use Rattle.state_layout.specs.Walks.{walk}
use Rattle.state_start.specs.Starting.{declared, entered, process_made}
use Rattle.spec_machine.specs.Program.{enter, start_in, end_in}
use Rattle.agree_sizes.specs.Bodies.{Holds}
use Rattle.agree_sizes.proofs.Sizes.{size_tree, size-declarations}
use Rattle.agree_stage.proofs.Stands.{Lying, body_lies, lying_front, lying_back}
use Rattle.agree_places.proofs.Heads.{holds_between}
use Rattle.agree_control.proofs.Main.{text-unit, text-enter}
use Rattle.agree_offers.proofs.Places.{known_there}
use Rattle.agree_start.specs.Beginnings.{locals_in, begins_in}
use Rattle.agree_start.proofs.Walks.{walk_from, over, Mute, Muted, over_muted, muted_each}
use Rattle.agree_start.proofs.Items.{type_below, Below, below_tree}
use Rattle.agree_start.proofs.Values.{Makes, Clear, locals_over}
use Rattle.agree_start.proofs.Units.{here, clear_body, clear_end, unit-over, body_ends, unit_long}
use Rattle.base_codes.specs.Items.{Item, i_body, i_end_body, i_local, i_type}
use Rattle.parse_code.specs.Code.{each, code_tree, code_declaration, code_parameter, code_group, code}
use Rattle.base_codes.specs.Items as items

-- ---- what is done at an item that a process enters
module _ (t : List ℕ) (p : ℕ) where
  enters_else : (c : ℕ) → (c ≡ c_body → ⊥) → (c ≡ c_declared → ⊥) → Mute (entered t p) t c
  unfolding entered
  enters_else c a b j s e = rw (ne_eqb (code_of t j) c_body (λ z. a (omega arith)), ne_eqb (code_of t j) c_declared (λ z. b (omega arith)))

  enters_body : (j : ℕ) (s : List ℤ) → code_of t j ≡ c_body → entered t p j s ≡ set s (process_at_lem p + 1) (kept (link_of t j))
  unfolding entered
  enters_body j s e = rw e

  enters_declared : (j : ℕ) (s : List ℤ) → code_of t j ≡ c_declared → entered t p j s ≡ declared t p j s
  unfolding entered
  enters_declared j s e = rw e

  enters_makes : (lo hi : ℕ) → Makes t (entered t p) p lo hi
  enters_makes lo hi =
      record {
        low = λ c h. enters_else c (λ e. omega arith) (λ e. omega arith);
        marks = λ c x y z. enters_else c (λ e. omega arith) z;
        makes = λ j s x y e. enters_declared j s e;
      }

  enters_parameter : (w : Name) → Muted (entered t p) t (code_parameter w)
  enters_parameter w = (λ k. enters_else c_name (λ e. omega arith) (λ e. omega arith), (λ k. enters_else c_parameter (λ e. omega arith) (λ e. omega arith), tt))

  enters_group : (g : Group) → Muted (entered t p) t (code_group g)
  enters_group (group n ws) = (
    λ k. let h = type_below n k in enters_else (items.code_of (i_type n)) (λ e. omega arith) (λ e. omega arith),
    (λ k. enters_else c_group (λ e. omega arith) (λ e. omega arith), muted_each (entered t p) t code_parameter enters_parameter ws),
  )

-- items below 210
pub muted_below : (f : ℕ → List ℤ → List ℤ) (t : List ℕ) → ((c : ℕ) → c < c_local → Mute f t c) → (l : List Item) → Below l → Muted f t l
muted_below f t h [] b = tt
muted_below f t h (x ∷ l) b = (λ k. h (items.code_of x) (b.0 k), muted_below f t h l b.1)

module _ (t : List ℕ) (a : Accepts t) where
  abbrev X : List Item
  X = code a.tree

  abbrev T : List ℕ
  T = tables_text t

  -- ---- the parts of a unit with a body
  module _ {u k : ℕ} (ds : _) (q : _) (h : Holds a.tree 0 u (body ds q) k) where
    abbrev D : List Item
    D = each (code_declaration i_local) ds

    abbrev Q : List Item
    Q = code_tree q

    whole : Lying X 0 (i_body ∷ D ++ Q ++ i_end_body ∷ []) k
    whole = body_lies h

    front : Lying X 0 (i_body ∷ D ++ Q) k
    front = lying_front X (i_body ∷ D ++ Q) (i_end_body ∷ []) 0 k whole

    pub locals_lie : Lying X 0 D (k + 1)
    locals_lie = lying_back X (i_body ∷ []) D 0 k (k + 1) refl (lying_front X (i_body ∷ D) Q 0 k front)

    pub statements_lie : Lying X 0 Q (start_in (body ds q) k)
    statements_lie = lying_back X (i_body ∷ D) Q 0 k (start_in (body ds q) k) (omega (arith, size-declarations ds)) front

    pub body_code : code_of (tables_text t) k ≡ c_body
    body_code = (here t a (i_body ∷ D ++ Q ++ i_end_body ∷ []) k whole).0

    ended : Lying X 0 (Q ++ i_end_body ∷ []) (start_in (body ds q) k)
    ended =
        lying_back X (i_body ∷ D) (Q ++ i_end_body ∷ []) 0 k (start_in (body ds q) k) (omega (arith, size-declarations ds))
        (subst (λ (l : List Item). Lying X 0 l k) (append_assoc (i_body ∷ D) Q (i_end_body ∷ [])) whole)

    clear_locals : Clear (tables_text t) (k + 1 + length D)
    clear_locals =
        subst (Clear T) (let z : start_in (body ds q) k ≡ k + 1 + length D = omega (arith, size-declarations ds) in z)
        (clear_body T Q (start_in (body ds q) k) (below_tree q) (known_there t a Q (start_in (body ds q) k) statements_lie) (here t a (Q ++ i_end_body ∷ []) (start_in (body ds q) k) ended)
        (clear_end t a h (start_in (body ds q) k + length Q) (omega (arith, size_tree q, body_ends t a (body ds q) k))))

    -- the unit, as a process enters it
    unit-entered : (p : ℕ) (s : List ℤ)
        → walk (entered T p) u (end_in (body ds q) k - u) s ≡ locals_in T p ds (k + 1) (set s (process_at_lem p + 1) (kept (enter q (start_in (body ds q) k) (end_in (body ds q) k))))
    unit-entered p s =
        let f = entered T p in
        let r = holds_between h in
        let G = each code_group r.groups in
        let c = text-unit t a h in
        let c2 = c.2 in
        let c3 = c.3 in
        let S = set s (process_at_lem p + 1) (kept (enter q (start_in (body ds q) k) (end_in (body ds q) k))) in
        unit-over t a f ds q r s
        ∙ over_muted f T Q (start_in (body ds q) k) _ (muted_below f T (enters_makes T p 0 0).low Q (below_tree q)) (known_there t a Q (start_in (body ds q) k) statements_lie)
        (here t a Q (start_in (body ds q) k) statements_lie)
        ∙ ap (λ x. over f D (k + 1) (f k (over f G (suc u) x))) (enters_else T p (code_of T u) (λ e. omega arith) (λ e. omega arith) u s refl)
        ∙ ap (λ x. over f D (k + 1) (f k x)) (over_muted f T G (suc u) s (muted_each f T code_group (enters_group T p) r.groups) (known_there t a G (suc u) r.lies) (here t a G (suc u) r.lies))
        ∙ ap (over f D (k + 1)) (enters_body T p k s body_code ∙ ap (λ n. set s (process_at_lem p + 1) (kept n)) (text-enter t a h))
        ∙ locals_over T f p 0 (k + 1 + length D) (enters_makes T p 0 (k + 1 + length D)) ds (k + 1) S (omega arith) (omega arith) (known_there t a D (k + 1) locals_lie) (here t a D (k + 1) locals_lie) clear_locals

  begins_by : (b : Body) {u k : ℕ} → Holds a.tree 0 u b k → (s : List ℤ) → process_made (tables_text t) u s ≡ begins_in (tables_text t) u b k s
  unfolding process_made
  begins_by (body ds q) {u} {k} h s =
      let p = processes_of s in
      let S = set (set s (process_at_lem p) (kept u)) 0 (kept (p + 1)) in
      ap (λ x. pick (ltb (processes_of s) processes_most) x s)
      (ap (λ n. walk (λ j x. entered T p (u + j) x) 0 n S) (unit_long t a h) ∙ walk_from (entered T p) u (end_in (body ds q) k - u) 0 S
      ∙ ap (λ j. walk (entered T p) j (end_in (body ds q) k - u) S) (let z : u + 0 ≡ u = omega arith in z) ∙ unit-entered ds q h p S)

  -- a process of the unit begins as the tree says
  pub text-begins : {u k : ℕ} {b : Body} → Holds a.tree 0 u b k → (s : List ℤ) → process_made (tables_text t) u s ≡ begins_in (tables_text t) u b k s
  text-begins {b = b} h s = begins_by b h s
