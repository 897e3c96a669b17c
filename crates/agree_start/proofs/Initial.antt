-- THE INITIAL STATE IS THE TREE'S: for every accepted text, what the tables make of a state is all zeros, then the globals, then the processes, as the tree has them.
use Prim.Native.Nat.{ℕ, suc, ◌+◌, ◌-◌, ◌/◌, ◌%◌, ◌≤◌, ◌<◌, min}
use native.Mathlib.Omega.{arith}
use native.Mathlib.Decide.{ℕ_discrete}
use mathlib.Core.Path.{◌≡◌, refl, sym as inv, ap, ◌∙◌, subst}
use mathlib.Core.Bool.{Bool, true, false}
use mathlib.Core.List.{List, [], ◌∷◌, ◌++◌, append_assoc}
use lib.ListN.{length, length-append}
use lib.IntN.{ℤ}
use lib.Dec.{eqb}
use borrow.Author.Tests.{ne_eqb}
use Rattle.base_ceilings.specs.Ceilings.{processes_most}
use Rattle.base_codes.specs.Codes.{c_active, c_active_many, c_body, c_declared, c_end_body, c_init, c_message, c_mtypes, c_proctype, c_name, c_number}
use Rattle.base_bytes.specs.Choice.{pick}
use Rattle.spec_grammar.specs.Tree.{Name, Body, body, Activity, idle, once, times, Part, mtypes, global, process, init, Model}
use Rattle.rule_sheets.specs.Homes.{inside_of}
use Rattle.table_layout.specs.Access.{items_of, code_of, link_of, number_of}
use Rattle.read_accepts_proof.specs.Meaning.{Accepts}
use Rattle.read_passes.specs.Judging.{tables_text}
use Rattle.state_layout.specs.Layout.{cleared}
use Rattle.state_layout.specs.Walks.{walk}
use Rattle.state_start.specs.Starting.{declared, process_made, global_made, starts_of, unit_started, scanned, initial_of}
use Rattle.keep_tables.specs.Well.{Unit}
use Rattle.state_types.specs.Fits.{is_local}
use Rattle.agree_eval.specs.Held.{Held}
use Rattle.agree_eval.proofs.Main.{items_long}
use Rattle.keep_tables.proofs.Tables.{codes_at, text-held}
use Rattle.keep_tables.proofs.Whole.{text-well}
use Rattle.spec_machine.specs.Sizes.{sum, size_declaration, size_group, size_activity, size_part}
use Rattle.agree_sizes.proofs.Sizes.{size_declaration_lem, size_groups, size_body_lem, size_activity_lem, size-part}
use Rattle.agree_sizes.specs.Bodies.{Holds, in_process, in_init, later}
use Rattle.spec_machine.specs.Program.{end_in}
use Rattle.agree_stage.proofs.Stands.{Lying, lying_whole, body_lies, lying_front, lying_back}
use Rattle.agree_places.proofs.Heads.{holds_between}
use Rattle.agree_control.proofs.Main.{text-unit}
use Rattle.agree_control.proofs.Insides.{Inner, inner_tree, inner-declarations, inner_groups, inner-global, inner_mtypes}
use Rattle.agree_offers.proofs.Places.{at_there, ends_there, known_there}
use Rattle.agree_start.specs.Beginnings.{global_in, globals_in, starts_in, head_in, started_in, all_started, repeated, begins_in, initial_in}
use Rattle.agree_start.proofs.Walks.{walk_none, walk-one, over, over-both, Mute, Muted, over_muted, muted_both, muted_each, walk_idle, walk-repeated}
use Rattle.agree_start.proofs.Values.{Makes, declaration_over}
use Rattle.agree_start.proofs.Units.{here, body_ends}
use Rattle.agree_start.proofs.Begins.{text-begins}
use Rattle.agree_start.proofs.Parts.{inside-none, inside-ended, inside-first, global_flag, clear_next}
use Rattle.base_codes.specs.Items.{Item, i_body, i_end_body, i_global, i_init, i_local}
use Rattle.parse_code.specs.Code.{each, code_tree, code_declaration, code_group, code_body, code_activity, code_message, code_part, code}
use Rattle.base_codes.specs.Items as items

-- ---- what is done at an item for a global variable
module _ (t : List ℕ) where
  global_else : (c : ℕ) → (c ≡ c_declared → ⊥) → Mute (global_made t) t c
  unfolding global_made
  global_else c a j s e = rw (ne_eqb (code_of t j) c_declared (λ z. a (omega arith)))

  global_local : (j : ℕ) (s : List ℤ) → link_of t j / 8 % 2 ≡ 1 → global_made t j s ≡ s
  unfolding global_made
  global_local j s e = rw e (same (eqb (code_of t j) c_declared))
    where
      same : (b : Bool) → pick b s s ≡ s
      same true = refl
      same false = refl

  global_there : (j : ℕ) (s : List ℤ) → code_of t j ≡ c_declared → link_of t j / 8 % 2 ≡ 0 → global_made t j s ≡ declared t 0 j s
  unfolding global_made
  global_there j s e z = rw (e, z)

  is_local_lem : (j : ℕ) → code_of t j ≡ c_declared → is_local t j ≡ true
  is_local_lem j e = rw e

  -- ---- and for processes
  started_else : (c : ℕ) → (c ≡ c_active → ⊥) → (c ≡ c_active_many → ⊥) → (c ≡ c_init → ⊥) → Mute (unit_started t) t c
  unfolding unit_started starts_of
  started_else c x y z j s e =
      rw (ne_eqb (code_of t j) c_active (λ o. x (omega arith)), ne_eqb (code_of t j) c_active_many (λ o. y (omega arith)), ne_eqb (code_of t j) c_init (λ o. z (omega arith))) (walk_none (λ k x. process_made t j x) 0 s)

  started-one : (j : ℕ) (s : List ℤ) → code_of t j ≡ c_active → unit_started t j s ≡ process_made t j s
  unfolding unit_started starts_of
  started-one j s e = rw e (walk-one (λ k x. process_made t j x) 0 0 s ∙ walk_none (λ k x. process_made t j x) 1 (process_made t j s))

  started_init : (j : ℕ) (s : List ℤ) → code_of t j ≡ c_init → unit_started t j s ≡ process_made t j s
  unfolding unit_started starts_of
  started_init j s e = rw e (walk-one (λ k x. process_made t j x) 0 0 s ∙ walk_none (λ k x. process_made t j x) 1 (process_made t j s))

  started-many : (j n : ℕ) (s : List ℤ) → code_of t j ≡ c_active_many → number_of t (j - 2) ≡ n → unit_started t j s ≡ walk (λ k x. process_made t j x) 0 (min processes_most n) s
  unfolding unit_started starts_of
  started-many j n s e z = rw (e, z)

muted_inner : (f : ℕ → List ℤ → List ℤ) (t : List ℕ) → ((c : ℕ) → c < c_proctype → Mute f t c) → (l : List Item) → Inner l → Muted f t l
muted_inner f t h [] n = tt
muted_inner f t h (x ∷ l) n = (λ k. h (items.code_of x) (n.0 k), muted_inner f t h l n.1)

head_is : (x : Activity) (i : ℕ) → suc (head_in x i) ≡ i + size_activity x
head_is idle i = omega arith
head_is once i = omega arith
head_is (times n) i = omega arith

module _ (t : List ℕ) (a : Accepts t) where
  abbrev X : List Item
  X = code a.tree

  abbrev T : List ℕ
  T = tables_text t

  abbrev C : List ℕ
  C = codes_at t a

  -- ---- global variables
  -- none is made in a unit behind its first item
  unit_idle : {u k : ℕ} {b : Body} → Holds a.tree 0 u b k → (n : ℕ) (s : List ℤ) → suc u + n ≤ end_in b k + 1 → walk (global_made T) (suc u) n s ≡ s
  unit_idle {u} {k} {b} h n s z = walk_idle (global_made T) n (suc u) s (λ j x g d. go j x g (omega arith) (ℕ_discrete (code_of T j) c_declared))
    where
      unit : Unit T u
      unit =
          let c = text-unit t a h in
          let w = ends_there t a (code_body b) k (body_lies h) in
          let v = body_ends t a b k in
          let it = (text-held t a).items in
          let e = (holds_between h).ends in
          let y : u < items_of T = omega arith in
          (y, c.2, c.3)

      go : (j : ℕ) (x : List ℤ) → suc u ≤ j → j ≤ end_in b k → Dec (code_of T j ≡ c_declared) → global_made T j x ≡ x
      go j x g d (no e) = global_else T (code_of T j) e j x refl
      go j x g d (yes e) = inner (ℕ_discrete j (end_in b k))
        where
          inner : Dec (j ≡ end_in b k) → global_made T j x ≡ x
          inner (yes q) = absurd (let c = (text-unit t a h).1 in let y : code_of T (end_in b k) ≡ c_declared = ap (code_of T) (inv q) ∙ e in omega arith)
          inner (no q) = let c = (text-unit t a h).0 in global_local T j x ((text-well t a).locals_local u j unit (g, omega arith) (is_local_lem T j e))

  unit-ended : {u k : ℕ} {b : Body} → Holds a.tree 0 u b k → inside_of C (suc (end_in b k)) ≡ 0
  unit-ended {u} {k} {b} h =
      let w = ends_there t a (code_body b) k (body_lies h) in
      let v = body_ends t a b k in
      inside-ended C (end_in b k) (inv ((text-held t a).codes (end_in b k) (omega arith)) ∙ (text-unit t a h).1)

  globals_part : (x : Part) (m : Model) (i : ℕ) (s : List ℤ) → Lying X 0 (code_part x ++ code m) i → i + length (code_part x ++ code m) ≡ length X
      → ((u k : ℕ) (b : Body) → Holds (x ∷ m) i u b k → Holds a.tree 0 u b k) → inside_of C i ≡ 0
      → (over (global_made T) (code_part x) i s ≡ global_in T x i s) × (inside_of C (i + size_part x) ≡ 0)
  globals_part (mtypes ws) m i s p n g z =
      let P = code_part (mtypes ws) in
      let l = lying_front X P (code m) 0 i p in
      let k = known_there t a P i l in
      (over_muted (global_made T) T P i s (muted_mtypes ws) k (here t a P i l), inside-none C P i (i + size_part (mtypes ws)) (inner_mtypes ws) k (at_there t a P i l) z (omega arith) (omega (arith, size-part (mtypes ws))))
    where
      muted_message : (w : Name) → Muted (global_made T) T (code_message w)
      muted_message w = (λ k. global_else T c_name (λ o. omega arith), (λ k. global_else T c_message (λ o. omega arith), tt))

      muted_mtypes : (ws : List Name) → Muted (global_made T) T (code_part (mtypes ws))
      muted_mtypes ws = (λ k. global_else T c_mtypes (λ o. omega arith), muted_each (global_made T) T code_message muted_message ws)
  globals_part (global d) m i s p n g z =
      let P = code_declaration i_global d in
      let l = lying_front X P (code m) 0 i p in
      let k = known_there t a P i l in
      let A = at_there t a P i l in
      let E = ends_there t a P i l in
      let sd = size_declaration_lem i_global d in
      let e = i + size_declaration d in
      let R = lying_back X P (code m) 0 i e (omega arith) p in
      let len = length-append P (code m) in
      let M : Makes T (global_made T) 0 i e = record {
        low = λ c h. global_else T c (λ o. omega arith);
        marks = λ c x y o. global_else T c o;
        makes = λ j s x y c. global_there T j s c (global_flag t a j (omega arith) c (inside-none C P i j (inner-global d) k A z x (omega arith)));
      } in (
        declaration_over T (global_made T) 0 i e M i_global (omega arith) (omega arith) d i s (omega arith) (omega arith) k (here t a P i l)
            (clear_next t a m e (known_there t a (code m) e R) (here t a (code m) e R) (omega arith)),
        inside-none C P i e (inner-global d) k A z (omega arith) (omega arith),
      )
  globals_part (process x w gs b) m i s p n g z =
      let A = code_activity x w in
      let G = each code_group gs in
      let B = code_body b in
      let u = head_in x i in
      let k = suc u + sum size_group gs in
      let q = head_is x i in
      let h = g u k b (in_process q refl) in
      let l = lying_front X (A ++ G ++ B) (code m) 0 i p in
      let lA = lying_front X A G 0 i (lying_front X (A ++ G) B 0 i l) in
      let v = body_ends t a b k in
      let sB = size_body_lem b in
      let n3 = length-append G B in
      let e : suc (end_in b k) ≡ i + size_part (process x w gs b) = omega arith in (
        ap (λ o. walk (global_made T) i o s) (ap length (append_assoc A G B)) ∙ over-both (global_made T) A (G ++ B) i (suc u) s (omega (arith, size_activity_lem x w))
            ∙ ap (over (global_made T) (G ++ B) (suc u)) (over_muted (global_made T) T A i s (activity x w) (known_there t a A i lA) (here t a A i lA))
            ∙ unit_idle h (length (G ++ B)) s (omega (arith, size_groups gs)),
        ap (inside_of C) (inv e) ∙ unit-ended h,
      )
    where
      activity : (x : Activity) (w : Name) → Muted (global_made T) T (code_activity x w)
      activity idle w = (λ k. global_else T c_name (λ o. omega arith), (λ k. global_else T c_proctype (λ o. omega arith), tt))
      activity once w = (λ k. global_else T c_name (λ o. omega arith), (λ k. global_else T c_active (λ o. omega arith), tt))
      activity (times n) w = (λ k. global_else T c_number (λ o. omega arith), (λ k. global_else T c_name (λ o. omega arith), (λ k. global_else T c_active_many (λ o. omega arith), tt)))
  globals_part (init b) m i s p n g z =
      let B = code_body b in
      let k = i + 1 in
      let h = g i k b (in_init refl) in
      let l = lying_front X (i_init ∷ B) (code m) 0 i p in
      let v = body_ends t a b k in
      let sB = size_body_lem b in
      let e : suc (end_in b k) ≡ i + size_part (init b) = omega arith in (
        walk-one (global_made T) i (length B) s ∙ ap (walk (global_made T) (suc i) (length B)) (global_else T c_init (λ o. omega arith) i s (here t a (i_init ∷ B) i l).0) ∙ unit_idle h (length B) s (omega arith),
        ap (inside_of C) (inv e) ∙ unit-ended h,
      )

  globals_over : (m : Model) (i : ℕ) (s : List ℤ) → Lying X 0 (code m) i → i + length (code m) ≡ length X → ((u k : ℕ) (b : Body) → Holds m i u b k → Holds a.tree 0 u b k) → inside_of C i ≡ 0
      → over (global_made T) (code m) i s ≡ globals_in T m i s
  globals_over [] i s p n g z = walk_none (global_made T) i s
  globals_over (x ∷ m) i s p n g z =
      let P = code_part x in
      let y = size-part x in
      let e = i + size_part x in
      let r = globals_part x m i s p n g z in
      let len = length-append P (code m) in
      over-both (global_made T) P (code m) i e s (omega arith) ∙ ap (over (global_made T) (code m) e) r.0
      ∙ globals_over m e (global_in T x i s) (lying_back X P (code m) 0 i e (omega arith) p) (omega arith) (λ u k b h. g u k b (later h)) r.1

  -- ---- processes
  inner_else : (c : ℕ) → c < c_proctype → Mute (unit_started T) T c
  inner_else c h = started_else T c (λ o. omega arith) (λ o. omega arith) (λ o. omega arith)

  -- none begins at an item of a body
  body_muted : (b : Body) → Muted (unit_started T) T (code_body b)
  body_muted (body ds q) =
      let f = unit_started T in
      let D = each (code_declaration i_local) ds in
      let Q = code_tree q in
      let B : Mute f T c_body = started_else T c_body (λ o. omega arith) (λ o. omega arith) (λ o. omega arith) in
      let E : Mute f T c_end_body = started_else T c_end_body (λ o. omega arith) (λ o. omega arith) (λ o. omega arith) in
      muted_both f T (i_body ∷ D ++ Q) (i_end_body ∷ [])
      (muted_both f T (i_body ∷ D) Q (λ k. B, muted_inner f T inner_else D (inner-declarations ds)) (muted_inner f T inner_else Q (inner_tree q))) (λ k. E, tt)

  -- the items up to the one that begins a proctype
  head-started : (x : Activity) (w : Name) (i : ℕ) (s : List ℤ) (r : List ℤ → List ℤ) → Held T i (code_activity x w) → ((y : List ℤ) → process_made T (head_in x i) y ≡ r y)
      → over (unit_started T) (code_activity x w) i s ≡ repeated r (starts_in x) s
  head-started idle w i s r h e =
      walk-one f i 1 s ∙ ap (walk f (suc i) 1) (inner_else c_name (omega arith) i s h.0) ∙ walk-one f (suc i) 0 s ∙ walk_none f (suc (suc i)) (f (suc i) s)
      ∙ started_else T c_proctype (λ o. omega arith) (λ o. omega arith) (λ o. omega arith) (suc i) s h.2.0
    where
      f : ℕ → List ℤ → List ℤ
      f = unit_started T
  head-started once w i s r h e =
      walk-one f i 1 s ∙ ap (walk f (suc i) 1) (inner_else c_name (omega arith) i s h.0) ∙ walk-one f (suc i) 0 s ∙ walk_none f (suc (suc i)) (f (suc i) s) ∙ started-one T (suc i) s h.2.0
      ∙ ap (λ j. process_made T j s) (let z : suc i ≡ i + 1 = omega arith in z) ∙ e s
    where
      f : ℕ → List ℤ → List ℤ
      f = unit_started T
  head-started (times n) w i s r h e =
      walk-one f i 2 s ∙ ap (walk f (suc i) 2) (inner_else c_number (omega arith) i s h.0) ∙ walk-one f (suc i) 1 s ∙ ap (walk f (suc (suc i)) 1) (inner_else c_name (omega arith) (suc i) s h.2.0)
      ∙ walk-one f (suc (suc i)) 0 s ∙ walk_none f (suc (suc (suc i))) (f (suc (suc i)) s)
      ∙ started-many T (suc (suc i)) n s h.2.2.0 (ap (number_of T) (let z : suc (suc i) - 2 ≡ i = omega arith in z) ∙ (h.1 refl).0)
      ∙ ap (λ j. walk (λ k x. process_made T j x) 0 (min processes_most n) s) (let z : suc (suc i) ≡ i + 2 = omega arith in z) ∙ walk-repeated (process_made T (i + 2)) r e (min processes_most n) 0 s
    where
      f : ℕ → List ℤ → List ℤ
      f = unit_started T

  started-part : (x : Part) (m : Model) (i : ℕ) (s : List ℤ) → Lying X 0 (code_part x ++ code m) i → ((u k : ℕ) (b : Body) → Holds (x ∷ m) i u b k → Holds a.tree 0 u b k)
      → over (unit_started T) (code_part x) i s ≡ started_in T x i s
  started-part (mtypes ws) m i s p g =
      let P = code_part (mtypes ws) in
      let l = lying_front X P (code m) 0 i p in
      over_muted (unit_started T) T P i s (muted_inner (unit_started T) T inner_else P (inner_mtypes ws)) (known_there t a P i l) (here t a P i l)
  started-part (global d) m i s p g =
      let P = code_declaration i_global d in
      let l = lying_front X P (code m) 0 i p in
      over_muted (unit_started T) T P i s (muted_inner (unit_started T) T inner_else P (inner-global d)) (known_there t a P i l) (here t a P i l)
  started-part (process x w gs b) m i s p g =
      let f = unit_started T in
      let A = code_activity x w in
      let G = each code_group gs in
      let B = code_body b in
      let u = head_in x i in
      let k = suc u + sum size_group gs in
      let h = g u k b (in_process (head_is x i) refl) in
      let l = subst (λ (y : List Item). Lying X 0 y i) (append_assoc A G B) (lying_front X (A ++ G ++ B) (code m) 0 i p) in
      let lA = lying_front X A (G ++ B) 0 i l in
      let lB = lying_back X A (G ++ B) 0 i (i + length A) refl l in
      ap (λ o. walk f i o s) (ap length (append_assoc A G B)) ∙ over-both f A (G ++ B) i (i + length A) s refl
      ∙ over_muted f T (G ++ B) (i + length A) (over f A i s) (muted_both f T G B (muted_inner f T inner_else G (inner_groups gs)) (body_muted b)) (known_there t a (G ++ B) (i + length A) lB)
      (here t a (G ++ B) (i + length A) lB)
      ∙ head-started x w i s (begins_in T u b k) (here t a A i lA) (text-begins t a h)
  started-part (init b) m i s p g =
      let f = unit_started T in
      let B = code_body b in
      let h = g i (i + 1) b (in_init refl) in
      let l = lying_front X (i_init ∷ B) (code m) 0 i p in
      let lB = lying_back X (i_init ∷ []) B 0 i (suc i) (omega arith) l in
      walk-one f i (length B) s ∙ over_muted f T B (suc i) (f i s) (body_muted b) (known_there t a B (suc i) lB) (here t a B (suc i) lB) ∙ started_init T i s (here t a (i_init ∷ B) i l).0
      ∙ text-begins t a h s

  started-over : (m : Model) (i : ℕ) (s : List ℤ) → Lying X 0 (code m) i → ((u k : ℕ) (b : Body) → Holds m i u b k → Holds a.tree 0 u b k) → over (unit_started T) (code m) i s ≡ all_started T m i s
  started-over [] i s p g = walk_none (unit_started T) i s
  started-over (x ∷ m) i s p g =
      let P = code_part x in
      let e = i + size_part x in
      over-both (unit_started T) P (code m) i e s (omega (arith, size-part x)) ∙ ap (over (unit_started T) (code m) e) (started-part x m i s p g)
      ∙ started-over m e (started_in T x i s) (lying_back X P (code m) 0 i e (omega (arith, size-part x)) p) (λ u k b h. g u k b (later h))

  -- ---- the whole
  all-items : scanned T ≡ length X
  unfolding scanned
  all-items = let e = (text-held t a).items in let f = (text-held t a).few in let n = items_long t a in omega arith

  -- the initial state is the tree's
  pub text-initial : (s : List ℤ) → initial_of (tables_text t) s ≡ initial_in (tables_text t) a.tree s
  unfolding initial_of
  text-initial s =
      let l = lying_whole X 0 in
      ap (λ n. walk (unit_started T) 0 n (walk (global_made T) 0 n (cleared s))) all-items
      ∙ ap (over (unit_started T) X 0) (globals_over a.tree 0 (cleared s) l (omega arith) (λ u k b h. h) (inside-first C))
      ∙ started-over a.tree 0 (globals_in T a.tree 0 (cleared s)) l (λ u k b h. h)
