-- A PROCESS BEGINS WITH ITS ARGUMENTS AS THE TREE SAYS: for every unit of an accepted text, each parameter gets the argument of its own position.
use Prim.Native.Nat.{ℕ, suc, ◌+◌, ◌-◌, ◌/◌, ◌≤◌, ◌<◌}
use native.Mathlib.Omega.{arith}
use mathlib.Core.Path.{◌≡◌, refl, ap, ◌∙◌}
use mathlib.Core.Option.{Option, none, some}
use mathlib.Core.List.{List, [], ◌∷◌, ◌++◌}
use lib.ListN.{length, get_or, set, length-append}
use lib.IntN.{ℤ, pos}
use borrow.Author.Tests.{ne_eqb}
use Rattle.base_codes.specs.Codes.{c_body, c_channel, c_declared, c_false, c_field, c_group, c_local, c_minus, c_name, c_named, c_number, c_parameter, c_size, c_true, c_value}
use Rattle.spec_grammar.specs.Tree.{Name, Value, unset, set_number, set_minus, set_true, set_false, set_name, set_channel, Variable, variable, Declaration, declare, Group, group, Body, body}
use Rattle.base_codes.specs.Items.{Item, i_local, i_type}
use Rattle.parse_code.specs.Code.{each, code_field, code_size, code_value, code_variable, code_declaration, code_parameter, code_group, code_tree, code_body, code}
use Rattle.base_codes.specs.Items as items
use Rattle.table_entries.specs.Items.{Known, AllKnown}
use Rattle.table_layout.specs.Access.{code_of, link_of}
use Rattle.read_accepts_proof.specs.Meaning.{Accepts}
use Rattle.read_passes.specs.Judging.{tables_text}
use Rattle.base_values.specs.Types.{cast_of}
use Rattle.state_layout.specs.Layout.{processes_of}
use Rattle.state_layout.specs.Walks.{walk}
use Rattle.step_eval.specs.Variables.{type_of, slot_of}
use Rattle.state_start.specs.Starting.{unit_length}
use Rattle.step_take.specs.Effects.{parameter_set, called}
use Rattle.keep_tables.specs.Well.{Unit}
use Rattle.agree_eval.specs.Held.{Held}
use Rattle.agree_eval.proofs.Items.{held-front, held_back}
use Rattle.agree_eval.proofs.Operators.{known-back}
use Rattle.keep_tables.proofs.Tables.{codes_at, text-held}
use Rattle.spec_machine.specs.Sizes.{size_group}
use Rattle.agree_sizes.proofs.Sizes.{size-group}
use Rattle.agree_sizes.specs.Bodies.{Holds}
use Rattle.spec_machine.specs.Program.{start_in, end_in}
use Rattle.agree_stage.proofs.Stands.{body_lies}
use Rattle.agree_places.proofs.Heads.{Between}
use Rattle.agree_control.proofs.Main.{text-unit}
use Rattle.agree_offers.proofs.Places.{ends_there, known_there}
use Rattle.agree_start.specs.Beginnings.{begins_in, names_in, groups_in, called_in}
use Rattle.agree_start.proofs.Walks.{walk-one, walk_from, over, over-both, Mute, Muted, over_muted, muted_both, muted_each}
use Rattle.agree_start.proofs.Items.{type_below, below_tree}
use Rattle.agree_start.proofs.Units.{here, unit-over, body_ends, unit_long}
use Rattle.agree_start.proofs.Begins.{muted_below, locals_lie, statements_lie, body_code, text-begins}
use Rattle.agree_start.proofs.Offsets.{before, before-unit, before_else, before_parameter, parameter_at}

-- ---- declarations, where nothing is done at codes up to 218
module _ (f : ℕ → List ℤ → List ℤ) (t : List ℕ) (h : (c : ℕ) → c ≤ c_field → Mute f t c) where
  muted_size : (z : Option ℕ) → Muted f t (code_size z)
  muted_size none = tt
  muted_size (some n) = (λ k. h c_number (omega arith), (λ k. h c_size (omega arith), tt))

  muted_type : (k : ℕ) → Known (i_type k) → Mute f t (items.code_of (i_type k))
  muted_type k e = let b = type_below k e in h (items.code_of (i_type k)) (omega arith)

  muted_field : (k : ℕ) → Muted f t (code_field k)
  muted_field k = (muted_type k, (λ e. h c_field (omega arith), tt))

  muted_value : (v : Value) → Muted f t (code_value v)
  muted_value unset = tt
  muted_value (set_number n) = (λ k. h c_number (omega arith), (λ k. h c_value (omega arith), tt))
  muted_value (set_minus n) = (λ k. h c_number (omega arith), (λ k. h c_minus (omega arith), tt))
  muted_value set_true = (λ k. h c_true (omega arith), (λ k. h c_value (omega arith), tt))
  muted_value set_false = (λ k. h c_false (omega arith), (λ k. h c_value (omega arith), tt))
  muted_value (set_name w) = (λ k. h c_name (omega arith), (λ k. h c_named (omega arith), tt))
  muted_value (set_channel n ks) = (λ k. h c_number (omega arith), (λ k. h c_channel (omega arith), muted_each f t code_field muted_field ks))

  muted_variable : (x : Variable) → Muted f t (code_variable x)
  muted_variable (variable w z v) = (λ k. h c_name (omega arith), (λ k. h c_declared (omega arith), muted_both f t (code_size z) (code_value v) (muted_size z) (muted_value v)))

  muted_declaration : (d : Declaration) → Muted f t (code_declaration i_local d)
  muted_declaration (declare k xs) = (muted_type k, (λ e. h c_local (omega arith), muted_each f t code_variable muted_variable xs))

  muted_locals : (ds : List Declaration) → Muted f t (each (code_declaration i_local) ds)
  muted_locals ds = muted_each f t (code_declaration i_local) muted_declaration ds

-- ---- what is done at an item for the arguments l
module _ (t : List ℕ) (p : ℕ) (l : List ℤ) where
  sets_else : (c : ℕ) → (c ≡ c_parameter → ⊥) → Mute (parameter_set t p l) t c
  unfolding parameter_set
  sets_else c a j s e = rw (ne_eqb (code_of t j) c_parameter (λ z. a (omega arith)))

  sets_parameter : (j n : ℕ) (s : List ℤ) → code_of t j ≡ c_parameter → link_of t j / 1024 ≡ n → parameter_set t p l j s ≡ set s (slot_of (link_of t j) p 0) (cast_of (type_of (link_of t j)) (get_or l n (pos 0)))
  unfolding parameter_set
  sets_parameter j n s e o = rw e (ap (λ x. set s (slot_of (link_of t j) p 0) (cast_of (type_of (link_of t j)) (get_or l x (pos 0)))) o)

-- ---- no number stands first
first-name : (t : List ℕ) (ws : List Name) (e : ℕ) → Held t e (each code_parameter ws) → (code_of t (e + length (each code_parameter ws)) ≡ c_number → ⊥) → code_of t e ≡ c_number → ⊥
first-name t [] e h n c = n (ap (code_of t) (let z : e + 0 ≡ e = omega arith in z) ∙ c)
first-name t (w ∷ ws) e h n c = let z = h.0 in omega arith

first_group : (t : List ℕ) (gs : List Group) (e : ℕ) → Held t e (each code_group gs) → (code_of t (e + length (each code_group gs)) ≡ c_number → ⊥) → code_of t e ≡ c_number → ⊥
first_group t [] e h n c = n (ap (code_of t) (let z : e + 0 ≡ e = omega arith in z) ∙ c)
first_group t (group k ws ∷ gs) e h n c = let z = h.0 in omega arith

module _ (t : List ℕ) (a : Accepts t) where
  abbrev X : List Item
  X = code a.tree

  abbrev T : List ℕ
  T = tables_text t

  -- ---- parameters in turn, from position n on
  module _ (p : ℕ) (l : List ℤ) (u e : ℕ) (U : Unit (tables_text t) u) (ends : e < link_of (tables_text t) u) (inside : e < length (codes_at t a)) where
    abbrev f : ℕ → List ℤ → List ℤ
    f = parameter_set T p l

    names-over : (ws : List Name) (n i : ℕ) (s : List ℤ) → u < i → i + length (each code_parameter ws) ≤ e → n ≤ i → Held T i (each code_parameter ws)
        → (code_of T (i + length (each code_parameter ws)) ≡ c_number → ⊥) → before t a u U i ≡ n
        → (over f (each code_parameter ws) i s ≡ names_in T p l n ws i s) × (before t a u U (i + length (each code_parameter ws)) ≡ n + length ws)
    names-over [] n i s g m y h z b =
        (over_muted f T [] i s tt tt tt, ap (before t a u U) (let q : i + 0 ≡ i = omega arith in q) ∙ b ∙ (let q : n ≡ n + 0 = omega arith in q))
    names-over (w ∷ ws) n i s g m y h z b =
        let L = each code_parameter ws in
        let few = (text-held t a).few in
        let q : suc (suc i) ≡ i + 2 = omega arith in
        let r : i + length (each code_parameter (w ∷ ws)) ≡ suc (suc i) + length L = omega arith in
        let j : suc i ≡ i + 1 = omega arith in
        let x = first-name T ws (suc (suc i)) h.2.2 (λ o. z (ap (code_of T) r ∙ o)) in
        let b1 = before_else t a u U i c_name (omega arith) h.0 (λ o. omega arith) (λ o. omega arith) in
        let i1 : suc (suc i) < length (codes_at t a) = omega arith in
        let b2 = before_parameter t a u U (suc i) i1 (omega arith, omega arith) h.2.0 x in
        let o = parameter_at t a u U (suc i) i1 (omega arith, omega arith) h.2.0 (omega arith) in
        let b3 : before t a u U (suc (suc i)) ≡ n + 1 = omega arith in
        let o1 : link_of T (suc i) / 1024 ≡ n = omega arith in
        let R = names-over ws (n + 1) (suc (suc i)) (set s (slot_of (link_of T (suc i)) p 0) (cast_of (type_of (link_of T (suc i))) (get_or l n (pos 0)))) (omega arith) (omega arith) (omega arith) h.2.2
        (λ o. z (ap (code_of T) r ∙ o)) b3 in (
          walk-one f i (suc (length L)) s ∙ ap (walk f (suc i) (suc (length L))) (sets_else T p l c_name (λ o. omega arith) i s h.0) ∙ walk-one f (suc i) (length L) s
              ∙ ap (over f L (suc (suc i))) (sets_parameter T p l (suc i) n s h.2.0 o1) ∙ R.0
              ∙ ap (λ x. names_in T p l (n + 1) ws x (set s (slot_of (link_of T (suc i)) p 0) (cast_of (type_of (link_of T (suc i))) (get_or l n (pos 0))))) q
              ∙ ap (λ x. names_in T p l (n + 1) ws (i + 2) (set s (slot_of (link_of T x) p 0) (cast_of (type_of (link_of T x)) (get_or l n (pos 0))))) j,
          ap (before t a u U) r ∙ R.1 ∙ (let q : n + 1 + length ws ≡ n + suc (length ws) = omega arith in q),
        )

    groups_over : (gs : List Group) (n i : ℕ) (s : List ℤ) → u < i → i + length (each code_group gs) ≤ e → n ≤ i → AllKnown (each code_group gs) → Held T i (each code_group gs)
        → (code_of T (i + length (each code_group gs)) ≡ c_number → ⊥) → before t a u U i ≡ n → over f (each code_group gs) i s ≡ groups_in T p l n gs i s
    groups_over [] n i s g m y k h z b = over_muted f T [] i s tt tt tt
    groups_over (group c ws ∷ gs) n i s g m y k h z b =
        let N = each code_parameter ws in
        let L = each code_group gs in
        let G = code_group (group c ws) in
        let len = length-append G L in
        let few = (text-held t a).few in
        let sized = size-group (group c ws) in
        let E = i + size_group (group c ws) in
        let hG = held-front T i G L h in
        let hL = held_back T G L i E (omega arith) h in
        let tb = type_below c k.0 in
        let i2 : suc (suc i) ≡ i + 2 = omega arith in
        let r : i + length (G ++ L) ≡ E + length L = omega arith in
        let x = first_group T gs E hL (λ o. z (ap (code_of T) r ∙ o)) in
        let b1 = before_else t a u U i (items.code_of (i_type c)) (omega arith) h.0 (λ o. omega arith) (λ o. omega arith) in
        let b2 = before_else t a u U (suc i) c_group (omega arith) h.2.0 (λ o. omega arith) (λ o. omega arith) in
        let R = names-over ws n (suc (suc i)) s (omega arith) (omega arith) (omega arith) hG.2.2 (λ o. x (ap (code_of T) (let q : E ≡ suc (suc i) + length N = omega arith in q) ∙ o)) (omega arith) in
        let b3 : before t a u U E ≡ n + length ws = ap (before t a u U) (let q : E ≡ suc (suc i) + length N = omega arith in q) ∙ R.1 in
        let room = enough ws in
        over-both f G L i E s (omega arith)
        ∙ ap (over f L E)
        (walk-one f i (suc (length N)) s ∙ ap (walk f (suc i) (suc (length N))) (sets_else T p l (items.code_of (i_type c)) (λ o. omega arith) i s h.0) ∙ walk-one f (suc i) (length N) s
        ∙ ap (over f N (suc (suc i))) (sets_else T p l c_group (λ o. omega arith) (suc i) s h.2.0) ∙ R.0 ∙ ap (λ j. names_in T p l n ws j s) i2)
        ∙ groups_over gs (n + length ws) E (names_in T p l n ws (i + 2) s) (omega arith) (omega arith) (omega arith) (known-back G L k) hL (λ o. z (ap (code_of T) r ∙ o)) b3
      where
        enough : (ws : List Name) → length ws ≤ length (each code_parameter ws)
        enough [] = omega arith
        enough (w ∷ ws) = let r = enough ws in omega arith

  -- ---- a unit
  module _ {u k : ℕ} (ds : List Declaration) (q : _) (h : Holds a.tree 0 u (body ds q) k) (r : Between X 0 u k) where
    parameters_set : (p : ℕ) (l s : List ℤ) → walk (parameter_set T p l) u (end_in (body ds q) k - u) s ≡ groups_in T p l 0 r.groups (suc u) s
    parameters_set p l s =
        let f = parameter_set T p l in
        let G = each code_group r.groups in
        let D = each (code_declaration i_local) ds in
        let Q = code_tree q in
        let c = text-unit t a h in
        let c0 = c.0 in
        let c2 = c.2 in
        let c3 = c.3 in
        let e = r.ends in
        let w = ends_there t a (code_body (body ds q)) k (body_lies h) in
        let v = body_ends t a (body ds q) k in
        let it = (text-held t a).items in
        let B = body_code t a ds q h in
        let K = locals_lie t a ds q h in
        let L = statements_lie t a ds q h in
        let U : Unit T u = (omega arith, c.2, c.3) in
        unit-over t a f ds q r s
        ∙ over_muted f T Q (start_in (body ds q) k) _ (muted_below f T (λ c g. sets_else T p l c (λ o. omega arith)) Q (below_tree q)) (known_there t a Q (start_in (body ds q) k) L)
        (here t a Q (start_in (body ds q) k) L)
        ∙ over_muted f T D (k + 1) _ (muted_locals f T (λ c g. sets_else T p l c (λ o. omega arith)) ds) (known_there t a D (k + 1) K) (here t a D (k + 1) K)
        ∙ sets_else T p l c_body (λ o. omega arith) k _ B
        ∙ ap (over f G (suc u)) (sets_else T p l (code_of T u) (λ o. omega arith) u s refl)
        ∙ groups_over p l u k U (omega arith) (omega arith) r.groups 0 (suc u) s (omega arith) (omega arith) (omega arith) (known_there t a G (suc u) r.lies) (here t a G (suc u) r.lies)
        (λ o. let y : code_of T k ≡ c_number = ap (code_of T) (let x : k ≡ suc u + length G = omega arith in x) ∙ o in omega arith) (before-unit t a u U)

  called_by : (b : Body) {u k : ℕ} → Holds a.tree 0 u b k → (r : Between (code a.tree) 0 u k) → (l s : List ℤ) → called (tables_text t) u l s ≡ called_in (tables_text t) u r.groups b k l s
  unfolding called
  called_by (body ds q) {u} {k} h r l s =
      let p = processes_of s in
      let S = begins_in T u (body ds q) k s in
      ap (walk (λ j x. parameter_set T p l (u + j) x) 0 (unit_length T u)) (text-begins t a h s)
      ∙ ap (λ n. walk (λ j x. parameter_set T p l (u + j) x) 0 n S) (unit_long t a h) ∙ walk_from (parameter_set T p l) u (end_in (body ds q) k - u) 0 S
      ∙ ap (λ j. walk (parameter_set T p l) j (end_in (body ds q) k - u) S) (let z : u + 0 ≡ u = omega arith in z) ∙ parameters_set ds q h r p l S

  -- with arguments, a process of the unit begins as the tree says; its parameters are the groups that stand between its first item and its body
  pub text-called : {u k : ℕ} {b : Body} → Holds a.tree 0 u b k → (r : Between (code a.tree) 0 u k) → (l s : List ℤ) → called (tables_text t) u l s ≡ called_in (tables_text t) u r.groups b k l s
  text-called {b = b} h r l s = called_by b h r l s
