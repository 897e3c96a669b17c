-- WHAT THE TABLES OF AN ACCEPTED TEXT CHART OF ITS TREE: all that `Charted` has, of what `Surveyed` has (`text_charted`).
use Prim.Native.Nat.{ℕ, zero, suc, ◌+◌, ◌/◌, ◌%◌, ◌<◌, ◌≤◌, min}
use native.Mathlib.Omega.{arith}
use borrow.Author.Tests.{eqb-true}
use mathlib.Core.Path.{◌≡◌, refl, sym as inv, ap, ◌∙◌, subst}
use mathlib.Core.Bool.{Bool, true, false}
use mathlib.Core.List.{List, [], ◌∷◌, ◌++◌, map}
use mathlib.Core.Logic.{◌⊎◌, inl, inr}
use lib.ListN.{length, get_or}
use lib.IntN.{pos}
use lib.Dec.{eqb}
use Rattle.base_ceilings.specs.Ceilings.{globals_most}
use Rattle.base_codes.specs.Codes.{c_channel, c_declared, c_init, c_parameter, c_proctype}
use Rattle.base_bytes.specs.Choice.{pick}
use Rattle.base_bytes.proofs.Tests.{both_true, either_true, true_false}
use Rattle.spec_grammar.specs.Tree.{Name, sequence, Value, unset, set_number, set_minus, set_true, set_false, set_name, set_channel, Variable, variable, Declaration, Group, group, Body, Part, mtypes, global, process, init, Model}
use Rattle.spec_grammar.specs.Grammar.{Listed, one, more, AValue, v_number, v_minus, v_true, v_false, v_name, AVariable, x_bare, x_set, x_array, x_array_set, x_channel, ADeclaration, declaration, Items, statements, declared, ABody, a_body, AUnit, u_mtypes, u_global, u_process, u_init, Gram, g_last, g_more}
use Rattle.parse_code.specs.Code.{code_value, code_part, code}
use Rattle.read_passes.specs.Judging.{tables_text}
use Rattle.read_accepts_proof.specs.Meaning.{Accepts}
use Rattle.table_layout.specs.Access.{items_of, code_of, link_of}
use Rattle.table_entries.specs.Items.{AllKnown}
use Rattle.agree_eval.specs.Held.{Held}
use Rattle.agree_eval.proofs.Main.{items_long}
use Rattle.state_start.specs.Starting.{unit_length, scanned}
use Rattle.state_layout.specs.Layout.{kept, global_at_lem, local_at, kept_most}
use Rattle.step_eval.specs.Variables.{size_of, slot_of}
use Rattle.state_types.specs.Fits.{is_global, is_local}
use Rattle.keep_tables.proofs.Tables.{text-held}
use Rattle.agree_stage.proofs.Stands.{lying_whole}
use Rattle.agree_offers.proofs.Places.{known_there}
use Rattle.agree_start.proofs.Units.{here, unit_long}
use Rattle.keep_tables.specs.Well as well
use Rattle.keep_tables.proofs.Whole.{text-well}
use Rattle.spec_rules.specs.Ceilings.{modest}
use Rattle.spec_machine.specs.Sizes.{size_part}
use Rattle.spec_machine.specs.Program.{Within, start_in, end_in, sequence_of}
use Rattle.agree_sizes.specs.Bodies.{Holds, in_process, in_init, later}
use Rattle.agree_control.proofs.Main.{text-unit}
use Rattle.agree_places.proofs.Whole.{text_head, text-stated}
use Rattle.spec_machine.specs.Names.{Var, of_variable, of_declaration, of_declarations, of_parameter, of_groups, locals_of, variables_of, globals_of, unit_at}
use Rattle.spec_machine.specs.Begins.{items_before, body_in, body_of, value_of}
use Rattle.base_values.specs.Operators.{unary_of}
use Rattle.agree_start.specs.Beginnings.{value_in}
use Rattle.spec_machine.specs.State.{Channel}
use Rattle.spec_machine.specs.Plain.{no_var, declared_by}
use Rattle.agree_encode.specs.Encode.{head_in, head_of, channel_item}
use Rattle.spec_machine.specs.Places.{Bodied, body_at, Belongs, ends, stands}
use Rattle.agree_encode.specs.Tabled.{offset_of, total_of, Linked}
use Rattle.agree_encode.proofs.Units.{unit-holds}
use Rattle.agree_encode.proofs.Totals.{modest_few}
use Rattle.agree_states.specs.Sites.{chan, Site, no_site, unit_sites, global_here, global_sites, sites_at}
use Rattle.agree_states.specs.Charted.{global_item, local_item, Placed, Made, Surveyed, Charted}
use Rattle.agree_states.proofs.Held.{code_inside}
use Rattle.agree_states.proofs.Sites.{some-items, unit_vars, sites_long, site_var, unit-item, made_site, made-item, sited_unit, unit-one, bodied_there, head-inside, head-one}
use Rattle.agree_states.proofs.Seen.{body_end, Makes, Tells, Spotted, InUnit, model_seen, Stood, standing_at, unit-stands, part-stands, unit-held, declaring_at, globals_declare, among}
use Rattle.agree_states.proofs.Slices.{offset_reach}
use Rattle.agree_states.proofs.Initial.{global_vars}

-- ---- a channel is no array, by the grammar
abbrev Single : Var → Type 0
Single x = chan x.value ≡ true → x.size ≡ 1

abbrev Singles : List Var → Type 0
Singles [] = Unit {0}
Singles (x ∷ xs) = Single x × Singles xs

singles_both : (xs ys : List Var) → Singles xs → Singles ys → Singles (xs ++ ys)
singles_both [] ys a b = b
singles_both (x ∷ xs) ys a b = (a.0, singles_both xs ys a.1 b)

singles_at : (xs : List Var) → Singles xs → (i : ℕ) → i < length xs → Single (get_or xs i no_var)
singles_at [] s i h = absurd (omega arith)
singles_at (x ∷ xs) s zero h = s.0
singles_at (x ∷ xs) s (suc i) h = singles_at xs s.1 i (omega arith)

value_plain : {ts : _} {v : Value} → AValue ts v → chan v ≡ false
value_plain v_number = refl
value_plain v_minus = refl
value_plain v_true = refl
value_plain v_false = refl
value_plain v_name = refl

variable_single : {k : ℕ} {ts : _} {x : Variable} (j : ℕ) → AVariable k ts x → Single (of_variable j x)
variable_single j x_bare = λ c. refl
variable_single j (x_set a) = λ c. refl
variable_single j x_array = λ c. absurd (true_false (inv c))
variable_single j (x_array_set a) = λ c. absurd (true_false (inv c ∙ value_plain a))
variable_single j (x_channel a) = λ c. refl

variables_single : {k : ℕ} {s : _} {ts : _} {xs : List Variable} (j : ℕ) → Listed s (AVariable k) ts xs → Singles (map (of_variable j) xs)
variables_single j (one a) = (variable_single j a, tt)
variables_single j (more a l) = (variable_single j a, variables_single j l)

declaration_single : {ts : _} {d : Declaration} → ADeclaration ts d → Singles (of_declaration d)
declaration_single (declaration {k = k} t l) = variables_single k l

items_single : {ts : _} {b : Body} → Items ts b → Singles (locals_of b)
items_single (statements q) = tt
items_single (declared {d = d} {ds = ds} a p r) = singles_both (of_declaration d) (of_declarations ds) (declaration_single a) (items_single r)

body_single : {ts : _} {b : Body} → ABody ts b → Singles (locals_of b)
body_single (a_body i) = items_single i

names_single : (k : ℕ) (ws : List Name) → Singles (map (of_parameter k) ws)
names_single k [] = tt
names_single k (w ∷ ws) = (λ c. refl, names_single k ws)

groups_single : (gs : List Group) → Singles (of_groups gs)
groups_single [] = tt
groups_single (group k ws ∷ gs) = singles_both (map (of_parameter k) ws) (of_groups gs) (names_single k ws) (groups_single gs)

unit_single : {ts : _} {u : Part} → AUnit ts u → Singles (variables_of u)
unit_single (u_mtypes l) = tt
unit_single (u_global a) = declaration_single a
unit_single (u_process {gs = gs} {b = b} x l a) = singles_both (of_groups gs) (locals_of b) (groups_single gs) (body_single a)
unit_single (u_init a) = body_single a

model_single : {ts : _} {m : Model} → Gram ts m → (k : ℕ) → Singles (variables_of (unit_at m k))
model_single (g_last a s) zero = unit_single a
model_single (g_last a s) (suc zero) = tt
model_single (g_last a s) (suc (suc k)) = tt
model_single (g_more a s g) zero = unit_single a
model_single (g_more a s g) (suc k) = model_single g k

-- ---- units of the tree
pub record UnitAt (m : Model) (i u : ℕ) (b : Body) (at : ℕ) : Type 0 where
  pub unit : ℕ
  pub bodied : Bodied (unit_at m unit)
  pub head : head_in (unit_at m unit) (i + items_before m unit) ≡ u
  pub own : body_of (unit_at m unit) ≡ b
  pub place : body_in (unit_at m unit) (i + items_before m unit) ≡ at

holds-unit : {m : Model} {i u at : ℕ} {b : Body} → Holds m i u b at → UnitAt m i u b at
unfolding items_before
holds-unit (in_process {x = x} e f) = let l = some-items x in record { unit = 0; bodied = tt; head = omega arith; own = refl; place = omega arith }
holds-unit (in_init e) = record { unit = 0; bodied = tt; head = omega arith; own = refl; place = omega arith }
holds-unit {i = i} (later {x = x} {m = m} h) =
    let r = holds-unit h in
    let q : i + (size_part x + items_before m r.unit) ≡ i + size_part x + items_before m r.unit = omega arith in
    record { unit = suc r.unit; bodied = r.bodied; head = ap (head_in (unit_at m r.unit)) q ∙ r.head; own = r.own; place = ap (body_in (unit_at m r.unit)) q ∙ r.place }

chan_is : (v : Value) → chan v ≡ true → (n : ℕ) × ((ks : List ℕ) × (v ≡ set_channel n ks))
chan_is (set_channel n ks) e = (n, (ks, refl))
chan_is unset e = absurd (true_false (inv e))
chan_is (set_number n) e = absurd (true_false (inv e))
chan_is (set_minus n) e = absurd (true_false (inv e))
chan_is set_true e = absurd (true_false (inv e))
chan_is set_false e = absurd (true_false (inv e))
chan_is (set_name w) e = absurd (true_false (inv e))

-- ---- global or local, by where its numbers are
flag_global : (l o : ℕ) → slot_of l 0 0 ≡ global_at_lem (o + 0) → o < globals_most → l / 8 % 2 ≡ 0
unfolding slot_of
flag_global l o e h = go (eqb (l / 8 % 2) 0) refl e
  where
    go : (b : Bool) → eqb (l / 8 % 2) 0 ≡ b → pick b (global_at_lem (l / 1024 + 0)) (local_at 0 (l / 1024 + 0)) ≡ global_at_lem (o + 0) → l / 8 % 2 ≡ 0
    go true f g = eqb-true (l / 8 % 2) 0 f
    go false f g = absurd (omega arith)

flag_local : (l o : ℕ) → slot_of l 0 0 ≡ local_at 0 (o + 0) → slot_of l 1 0 ≡ local_at 1 (o + 0) → l / 8 % 2 ≡ 0 → ⊥
unfolding slot_of
flag_local l o e f z =
    let a : pick (eqb (l / 8 % 2) 0) (global_at_lem (l / 1024 + 0)) (local_at 0 (l / 1024 + 0)) ≡ global_at_lem (l / 1024 + 0) = rw z in
    let b : pick (eqb (l / 8 % 2) 0) (global_at_lem (l / 1024 + 0)) (local_at 1 (l / 1024 + 0)) ≡ global_at_lem (l / 1024 + 0) = rw z in
    let c : local_at 0 (o + 0) ≡ local_at 1 (o + 0) = inv e ∙ a ∙ inv b ∙ f in
    omega arith

pub kept_is : (n : ℕ) → n ≤ kept_most → kept n ≡ pos n
kept_is n h = ap pos (let z : min kept_most n ≡ n = omega arith in z)

kind_of : (u : Part) (i : ℕ) → Bodied u ⊎ (global_here u i ≡ unit_sites u i)
kind_of (mtypes ws) i = inr refl
kind_of (global d) i = inr refl
kind_of (process a w gs b) i = inl tt
kind_of (init b) i = inl tt

module _ (t : List ℕ) (a : Accepts t) (small : modest a.tree ≡ true) (S : Surveyed a.tree (tables_text t)) where
  abbrev m : Model
  m = a.tree

  abbrev T : List ℕ
  T = tables_text t

  held : (k : ℕ) → Bodied (unit_at m k) → Holds m 0 (head_of m k) (body_of (unit_at m k)) (body_at m k)
  held k b = unit-holds m k 0 (items_before m k) (omega arith) b

  head_is : (k : ℕ) → head_in (unit_at m k) (0 + items_before m k) ≡ head_of m k
  head_is k = ap (head_in (unit_at m k)) (let z : 0 + items_before m k ≡ items_before m k = omega arith in z)

  units : (k : ℕ) → Bodied (unit_at m k) → (c_proctype ≤ code_of T (head_of m k)) × (code_of T (head_of m k) ≤ c_init)
  units k b = let c = text-unit t a (held k b) in (c.2, c.3)

  unit_in : (k : ℕ) → Bodied (unit_at m k) → well.Unit T (head_of m k)
  unit_in k b = let c = units k b in let c0 = c.0 in (code_inside T (head_of m k) (omega arith), c.0, c.1)

  units_only : (u : ℕ) → c_proctype ≤ code_of T u → code_of T u ≤ c_init → (k : ℕ) × (Bodied (unit_at m k) × (head_of m k ≡ u))
  units_only u h g = let r = holds-unit (text_head t a u (code_inside T u (omega arith), h, g)).held in (r.unit, (r.bodied, inv (head_is r.unit) ∙ r.head))

  places_only : (k j : ℕ) → Bodied (unit_at m k) → Placed T (head_of m k) j → Belongs m k j
  places_only k j b (inl e) = ends b (e ∙ (text-unit t a (held k b)).0)
  places_only k j b (inr w) =
      let d = text-stated t a (head_of m k) j (unit_in k b) (w.0, w.1) w.2 in
      let s = d.stands in
      let r = holds-unit s.held in
      let e : r.unit ≡ k = head-one m r.unit k r.bodied b (inv (head_is r.unit) ∙ r.head) in
      let o : s.own ≡ body_of (unit_at m k) = inv r.own ∙ ap (λ n. body_of (unit_at m n)) e in
      let p : s.at ≡ body_at m k = inv r.place ∙ ap (λ n. body_in (unit_at m n) (0 + items_before m n)) e
      ∙ ap (body_in (unit_at m k)) (let z : 0 + items_before m k ≡ items_before m k = omega arith in z) in
      stands b (subst (λ (x : Body). Within sequence (sequence_of x) (start_in x (body_at m k)) (end_in x (body_at m k)) 0 d.act j d.ways.next d.ways.out) o
      (subst (λ n. Within sequence (sequence_of s.own) (start_in s.own n) (end_in s.own n) 0 d.act j d.ways.next d.ways.out) p s.inside))

  singles : (k i : ℕ) → i < length (sites_at m k) → chan (get_or (sites_at m k) i no_site).var.value ≡ true → (get_or (sites_at m k) i no_site).var.size ≡ 1
  singles k i h =
      let v = unit_vars (unit_at m k) (items_before m k) in
      subst Single (inv (site_var (sites_at m k) (variables_of (unit_at m k)) v i h))
      (singles_at (variables_of (unit_at m k)) (model_single a.gram k) i (subst (i <◌) (sites_long (sites_at m k) (variables_of (unit_at m k)) v) h))

  -- ---- the items that declare
  all_held : Held T 0 (code m)
  all_held = here t a (code m) 0 (lying_whole (code m) 0)

  all_known : AllKnown (code m)
  all_known = known_there t a (code m) 0 (lying_whole (code m) 0)

  all-items : items_of T ≡ length (code m)
  all-items = let e = (text-held t a).items in let n = items_long t a in omega arith

  spot : (j : ℕ) → 1 ≤ code_of T j → InUnit T m 0 j
  spot j h = let g = code_inside T j h in let e = all-items in model_seen T m 0 all_known all_held j (omega arith) (omega arith)

  start_is : (k : ℕ) → unit_sites (unit_at m k) (0 + items_before m k) ≡ sites_at m k
  start_is k = ap (unit_sites (unit_at m k)) (let z : 0 + items_before m k ≡ items_before m k = omega arith in z)

  channels_only : (d : ℕ) → code_of T d ≡ c_channel → Made m d
  channels_only d e =
      let w = spot d (omega arith) in
      let c = subst (λ (l : List Site). Makes l d) (start_is w.unit) (w.spotted.channel e) in
      let v = chan_is (get_or (sites_at m w.unit) c.site no_site).var.value c.makes in
      record {
        channel = record { unit = w.unit; variable = c.site; held = [] };
        capacity = v.0;
        types = v.1.0;
        declared = ap (λ (x : Var). x.value) (inv (site_var (sites_at m w.unit) (variables_of (unit_at m w.unit)) (unit_vars (unit_at m w.unit) (items_before m w.unit)) c.site c.here)) ∙ v.1.1;
        is = unit-item (unit_at m w.unit) c.site (items_before m w.unit) c.here c.makes ∙ c.is;
      }

  -- the items of a unit from its first on
  inside-unit : (k : ℕ) → Bodied (unit_at m k) → (j : ℕ) → j < unit_length T (head_of m k) → head_of m k + j < items_before m k + size_part (unit_at m k)
  inside-unit k b j h =
      let l = unit_long t a (held k b) in
      let e = body_end (unit_at m k) (items_before m k) b in
      omega arith

  locals_only : (k : ℕ) → Bodied (unit_at m k) → (j : ℕ) → j < unit_length T (head_of m k) → is_local T (head_of m k + j) ≡ true
      → (i : ℕ) × ((i < length (variables_of (unit_at m k))) × (local_item m k i ≡ head_of m k + j))
  locals_only k b j h e = go (either_true (eqb (code_of T (head_of m k + j)) c_declared) (eqb (code_of T (head_of m k + j)) c_parameter) e)
    where
      found : 1 ≤ code_of T (head_of m k + j) → ((n : ℕ) → Spotted T (unit_sites (unit_at m n) (0 + items_before m n)) (head_of m k + j) → Tells (unit_sites (unit_at m n) (0 + items_before m n)) (head_of m k + j))
          → (i : ℕ) × ((i < length (variables_of (unit_at m k))) × (local_item m k i ≡ head_of m k + j))
      found c f =
          let w = spot (head_of m k + j) c in
          let g = (head-inside (unit_at m k) (items_before m k) b).0 in
          let w1 = w.from in
          let w2 = w.to in
          let q = inside-unit k b j h in
          let u : w.unit ≡ k = unit-one m w.unit k (head_of m k + j) (head_of m k + j) w.here (bodied_there m k b) (omega arith) (omega arith) (omega arith) q refl in
          let r : Tells (sites_at m k) (head_of m k + j) = subst (λ n. Tells (sites_at m n) (head_of m k + j)) u (subst (λ (l : List Site). Tells l (head_of m k + j)) (start_is w.unit) (f w.unit w.spotted)) in
          (r.site, (subst (r.site <◌) (sites_long (sites_at m k) (variables_of (unit_at m k)) (unit_vars (unit_at m k) (items_before m k))) r.here, r.is))

      go : (eqb (code_of T (head_of m k + j)) c_declared ≡ true) ⊎ (eqb (code_of T (head_of m k + j)) c_parameter ≡ true) → (i : ℕ) × ((i < length (variables_of (unit_at m k))) × (local_item m k i ≡ head_of m k + j))
      go (inl z) = let c = eqb-true (code_of T (head_of m k + j)) c_declared z in found (omega arith) (λ n s. s.declared c)
      go (inr z) = let c = eqb-true (code_of T (head_of m k + j)) c_parameter z in found (omega arith) (λ n s. s.parameter c)

  -- ---- where variables are declared
  held-unit : (k : ℕ) → k < length m → Held T (items_before m k) (code_part (unit_at m k))
  held-unit k h = subst (λ n. Held T n (code_part (unit_at m k))) (let z : 0 + items_before m k ≡ items_before m k = omega arith in z) (unit-held T m 0 all_held k h)

  local_stands : (k : ℕ) → Bodied (unit_at m k) → (i : ℕ) → i < length (variables_of (unit_at m k)) → Stood T (head_of m k) (end_in (body_of (unit_at m k)) (body_at m k)) (get_or (sites_at m k) i no_site)
  local_stands k b i h =
      standing_at T (head_of m k) (end_in (body_of (unit_at m k)) (body_at m k)) (sites_at m k) (unit-stands T (unit_at m k) (items_before m k) b (held-unit k (bodied_there m k b))) i
      (subst (i <◌) (inv (sites_long (sites_at m k) (variables_of (unit_at m k)) (unit_vars (unit_at m k) (items_before m k)))) h)

  is_local_lem : (d : ℕ) → (code_of T d ≡ c_declared) ⊎ (code_of T d ≡ c_parameter) → is_local T d ≡ true
  is_local_lem d (inl e) = rw e
  is_local_lem d (inr e) = rw e

  locals : (k : ℕ) → Bodied (unit_at m k) → (i : ℕ) → i < length (variables_of (unit_at m k))
      → (head_of m k ≤ local_item m k i) × (local_item m k i < head_of m k + unit_length T (head_of m k)) × (is_local T (local_item m k i) ≡ true)
      × Linked (link_of T (local_item m k i)) (get_or (variables_of (unit_at m k)) i no_var) local_at (offset_of (variables_of (unit_at m k)) i)
  locals k b i h =
      let s = local_stands k b i h in
      let f = s.from in
      let g = s.to in
      let l = unit_long t a (held k b) in
      (s.from, omega arith, is_local_lem (local_item m k i) s.tells, S.locals k b i h)

  -- each variable has a number
  some_number : (d : ℕ) → is_local T d ≡ true → 1 ≤ code_of T d → 1 ≤ size_of (link_of T d)
  some_number d e h = (text-well t a).sized d (code_inside T d h) e

  global-stands : (i : ℕ) → i < length (globals_of m) → (code_of T (global_item m i) ≡ c_declared) × (global_item m i < length (code m))
  global-stands i h =
      declaring_at T (length (code m)) (global_sites m 0) (globals_declare T m 0 (length (code m)) (omega arith) all_held) i
      (subst (i <◌) (inv (sites_long (global_sites m 0) (globals_of m) (global_vars m 0))) h)

  globals : (i : ℕ) → i < length (globals_of m)
      → (global_item m i < scanned T) × (is_global T (global_item m i) ≡ true) × Linked (link_of T (global_item m i)) (get_or (globals_of m) i no_var) (λ p n. global_at_lem n) (offset_of (globals_of m) i)
  unfolding scanned
  globals i h =
      let s = global-stands i h in
      let c = s.0 in
      let g = s.1 in
      let e = all-items in
      let f = (text-well t a).few.1 in
      let l = S.globals i h in
      let n : 1 ≤ (get_or (globals_of m) i no_var).size = subst (1 ≤◌) l.size (some_number (global_item m i) (is_local_lem (global_item m i) (inl c)) (omega arith)) in
      let r = offset_reach (globals_of m) i 0 h n in
      let w : total_of (globals_of m) ≤ globals_most = (modest_few m small).globals in
      let z = flag_global (link_of T (global_item m i)) (offset_of (globals_of m) i) (l.slot 0 0 n) (omega arith) in
      (omega arith, rw (c, z), l)

  globals_only : (j : ℕ) → j < scanned T → is_global T j ≡ true → (i : ℕ) × ((i < length (globals_of m)) × (global_item m i ≡ j))
  globals_only j h e =
      let p = both_true (eqb (code_of T j) c_declared) (eqb (link_of T j / 8 % 2) 0) e in
      let c = eqb-true (code_of T j) c_declared p.0 in
      let w = spot j (omega arith) in
      let r = subst (λ (l : List Site). Tells l j) (start_is w.unit) (w.spotted.declared c) in
      go w.unit r (eqb-true (link_of T j / 8 % 2) 0 p.1) c (kind_of (unit_at m w.unit) (items_before m w.unit))
    where
      go : (k : ℕ) (r : Tells (sites_at m k) j) → link_of T j / 8 % 2 ≡ 0 → code_of T j ≡ c_declared → Bodied (unit_at m k) ⊎ (global_here (unit_at m k) (items_before m k) ≡ unit_sites (unit_at m k) (items_before m k))
          → (i : ℕ) × ((i < length (globals_of m)) × (global_item m i ≡ j))
      go k r z c (inl b) =
          let v = unit_vars (unit_at m k) (items_before m k) in
          let h = subst (r.site <◌) (sites_long (sites_at m k) (variables_of (unit_at m k)) v) r.here in
          let l = subst (λ d. Linked (link_of T d) (get_or (variables_of (unit_at m k)) r.site no_var) local_at (offset_of (variables_of (unit_at m k)) r.site)) r.is (S.locals k b r.site h) in
          let n : 1 ≤ (get_or (variables_of (unit_at m k)) r.site no_var).size = subst (1 ≤◌) l.size (some_number j (is_local_lem j (inl c)) (omega arith)) in
          absurd (flag_local (link_of T j) (offset_of (variables_of (unit_at m k)) r.site) (l.slot 0 0 n) (l.slot 1 0 n) z)
      go k r z c (inr e) =
          let q : 0 + items_before m k ≡ items_before m k = omega arith in
          let g : r.site < length (global_here (unit_at m k) (0 + items_before m k)) =
          subst (λ n. r.site < length (global_here (unit_at m k) n)) (inv q) (subst (λ (l : List Site). r.site < length l) (inv e) r.here) in
          let x = among m 0 k r.site g in (
            x.place,
            (
              subst (x.place <◌) (sites_long (global_sites m 0) (globals_of m) (global_vars m 0)) x.here,
              ap (λ (y : Site). y.item) x.is ∙ ap (λ n. (get_or (global_here (unit_at m k) n) r.site no_site).item) q ∙ ap (λ (l : List Site). (get_or l r.site no_site).item) e ∙ r.is,
            ),
          )

  value_held : (k i : ℕ) → i < length (sites_at m k) → Held T (get_or (sites_at m k) i no_site).worth (code_value (get_or (sites_at m k) i no_site).var.value)
  value_held k i h =
      (standing_at T (items_before m k) (items_before m k + size_part (unit_at m k)) (sites_at m k) (part-stands T (unit_at m k) (items_before m k) (held-unit k (sited_unit m k i h))) i h).value

  worths : (k i : ℕ) → i < length (sites_at m k) → chan (get_or (sites_at m k) i no_site).var.value ≡ false
      → value_in T (get_or (sites_at m k) i no_site).var.value (get_or (sites_at m k) i no_site).worth ≡ value_of m (get_or (sites_at m k) i no_site).var.value
  worths k i h = go (get_or (sites_at m k) i no_site).var.value refl (value_held k i h)
    where
      w : ℕ
      w = (get_or (sites_at m k) i no_site).worth

      go : (v : Value) → (get_or (sites_at m k) i no_site).var.value ≡ v → Held T (get_or (sites_at m k) i no_site).worth (code_value v) → chan v ≡ false
          → value_in T v (get_or (sites_at m k) i no_site).worth ≡ value_of m v
      go unset e h c = refl
      go (set_number n) e h c = kept_is n (h.1 refl).1
      go (set_minus n) e h c = ap (unary_of 15) (kept_is n (h.1 refl).1)
      go set_true e h c = refl
      go set_false e h c = refl
      go (set_name x) e g c = S.messages k i x h e
      go (set_channel n ks) e h c = absurd (true_false c)

  -- ---- channels
  module _ (c : Channel) (n : ℕ) (ks : List ℕ) (e : declared_by m c ≡ set_channel n ks) where
    abbrev d : ℕ
    d = (get_or (sites_at m c.unit) c.variable no_site).worth

    channel-held : Held T (get_or (sites_at m c.unit) c.variable no_site).worth (code_value (set_channel n ks))
    channel-held =
        let k = c.unit in
        let s = made_site m c n ks e in
        let v : (get_or (sites_at m c.unit) c.variable no_site).var.value ≡ set_channel n ks =
        ap (λ (x : Var). x.value) (site_var (sites_at m k) (variables_of (unit_at m k)) (unit_vars (unit_at m k) (items_before m k)) c.variable s) ∙ e in
        subst (λ v. Held T (get_or (sites_at m c.unit) c.variable no_site).worth (code_value v)) v (value_held k c.variable s)

    channel_codes : code_of T (channel_item m c) ≡ c_channel
    channel_codes = ap (code_of T) (made-item m c n ks e ∙ (let z : d + 1 ≡ suc d = omega arith in z)) ∙ channel-held.2.0

  pub text_charted : Charted a.tree (tables_text t)
  text_charted =
      let n = modest_few m small in
      record {
        globals = globals;
        globals_only = globals_only;
        locals = locals;
        worths = worths;
        places = S.places;
        channels = S.channels;
        channel_codes = channel_codes;
        few = (text-well t a).few.1;
        globals_few = n.globals;
        locals_few = n.locals;
        singles = singles;
        units = units;
        units_only = units_only;
        places_only = places_only;
        locals_only = locals_only;
        channels_only = channels_only;
      }
