-- NUMBERS THAT REFUSAL 9 LETS THROUGH HOLD A PLAIN STATE that fits (`stands-holds`), for tables that chart the model.
use Prim.Native.Nat.{ℕ, zero, suc, ◌+◌, ◌-◌, ◌*◌, ◌/◌, ◌%◌, ◌<◌, ◌≤◌, min}
use native.Mathlib.Omega.{arith}
use native.Mathlib.Decide.{dec_lt}
use mathlib.Core.Path.{◌≡◌, refl, sym as inv, ap, ◌∙◌, subst}
use mathlib.Core.Bool.{true}
use mathlib.Core.List.{List, [], ◌∷◌, ◌++◌, map}
use mathlib.Core.Logic.{◌⊎◌, inl, inr}
use lib.ListN.{length, get_or, drop}
use lib.IntN.{ℤ, pos}
use Rattle.base_ceilings.specs.Ceilings.{capacity_most, channels_most, fields_most, globals_most, processes_most, state_room}
use Rattle.table_layout.specs.Access.{link_of}
use Rattle.base_values.specs.Types.{cast_of}
use Rattle.state_layout.specs.Layout.{kept, cell_of, count_of, global_at_lem, process_at_lem, local_at, channel_at, field_at, processes_of, channels_of, unit_of, place_of, declared_of, waiting_of, kept_most, channel_size, process_size}
use Rattle.step_eval.specs.Variables.{type_of, size_of, slot_of}
use Rattle.state_start.specs.Starting.{unit_length}
use Rattle.step_ready.specs.Channels.{fields_of}
use Rattle.state_types.specs.Fits.{is_local}
use Rattle.state_check.specs.Meaning as standing
use Rattle.state_check.specs.Meaning.{InType, Used, global_number, process_unit, process_place, local_number, channel_item_lem, channel_count, field_number}
use Rattle.spec_grammar.specs.Tree.{set_channel, Model}
use Rattle.spec_machine.specs.State.{Channel, Process, State, no_channel, no_process}
use Rattle.spec_machine.specs.Names.{Var, variables_of, globals_of, unit_at}
use Rattle.spec_machine.specs.Plain.{no_var, declared_by}
use Rattle.agree_encode.specs.Encode.{rows, flat, head_of, channel_item, message_row, process_row, channel_row, encode}
use Rattle.spec_machine.specs.Places.{Bodied, Belongs}
use Rattle.spec_machine.specs.Fits.{Filled, Fielded, ChannelFits, ProcessFits, Fits}
use Rattle.agree_encode.specs.Tabled.{offset_of, total_of, Linked}
use Rattle.agree_encode.proofs.Rows.{off, row_any, at_four}
use Rattle.agree_states.specs.Charted.{global_item, local_item, Placed, Channelled, Charted}
use Rattle.agree_states.proofs.Cells.{Shown, shown-same}
use Rattle.agree_states.proofs.Slices.{get_past, get_map, map_long, Chosen, choose, cells, cells_get, cells_past, cells_long, values_at, values-flat, values_typed, offset_reach, messages_at, messages_long, messages_get}

-- what a variable's link says of a place, said of its item
type_at : (s : List ℤ) (l ty i j : ℕ) → type_of l ≡ ty → i ≡ j → InType s (type_of l) i → cast_of ty (cell_of s j) ≡ cell_of s j
type_at s l ty i j e f h = subst (λ n. cast_of ty (cell_of s n) ≡ cell_of s n) f (subst (λ n. cast_of n (cell_of s i) ≡ cell_of s i) e h)

kept-count : (s : List ℤ) (i n most : ℕ) → cell_of s i ≡ pos (count_of s i) → count_of s i ≤ most → most ≤ kept_most → n ≡ count_of s i → cell_of s i ≡ kept n
kept-count s i n most e h g f = e ∙ ap pos (let z : count_of s i ≡ min kept_most n = omega arith in z)

-- a field stands in one place only
field-same : (c n f q i j : ℕ) → n < capacity_most → f < fields_most → i < capacity_most → j < fields_most → field_at c n f ≡ field_at q i j → (c ≡ q) × (n ≡ i) × (f ≡ j)
field-same c n f q i j a b x y e = let z : c ≡ q = omega arith in let w : n ≡ i = omega arith in (z, w, omega arith)

module _ (m : Model) (T : List ℕ) (X : Charted m T) (s : List ℤ) (st : standing.IsState T s) where
  -- ---- the processes
  -- x is process p
  pub record Reads (p : ℕ) (x : Process) : Type 0 where
    pub unit : head_of m x.unit ≡ unit_of s p
    pub bodied : Bodied (unit_at m x.unit)
    pub place : x.place ≡ place_of s p
    pub variables : x.variables ≡ values_at (variables_of (unit_at m x.unit)) s (local_at p 0)

  read : (p : ℕ) → p < processes_of s → (x : Process) × Reads p x
  read p h =
      let u = X.units_only (unit_of s p) (st.units p h).0 (st.units p h).1 in
      (record { unit = u.0; place = place_of s p; variables = values_at (variables_of (unit_at m u.0)) s (local_at p 0) }, record { unit = u.1.1; bodied = u.1.0; place = refl; variables = refl })

  processes : Chosen Reads no_process (processes_of s)
  processes = choose Reads no_process (processes_of s) read

  -- ---- the channels
  -- y is the channel of record c
  pub record Queued (c : ℕ) (y : Channel) : Type 0 where
    pub item : channel_item m y ≡ declared_of s c
    pub capacity : ℕ
    pub types : List ℕ
    pub declared : declared_by m y ≡ set_channel capacity types
    pub held : y.held ≡ messages_at s (length types) (channel_at c + 2) (waiting_of s c)

  queue : (c : ℕ) → c < channels_of s → (y : Channel) × Queued c y
  queue c h =
      let d = X.channels_only (declared_of s c) (st.declarations c h) in (
        record { unit = d.channel.unit; variable = d.channel.variable; held = messages_at s (length d.types) (channel_at c + 2) (waiting_of s c) },
        record { item = d.is; capacity = d.capacity; types = d.types; declared = d.declared; held = refl },
      )

  channels : Chosen Queued no_channel (channels_of s)
  channels = choose Queued no_channel (channels_of s) queue

  abbrev σ : State
  σ = record { globals = values_at (globals_of m) s (global_at_lem 0); processes = processes.list; channels = channels.list }

  module _ (p : ℕ) (h : p < processes_of s) where
    abbrev me : Process
    me = get_or processes.list p no_process

    abbrev mine : List Var
    mine = variables_of (unit_at m me.unit)

    R : Reads p (get_or processes.list p no_process)
    R = processes.each p h

    -- its item, counted from the one that begins the unit
    nth : (i : ℕ) → i < length mine → (j : ℕ) × ((j < unit_length T (unit_of s p)) × (unit_of s p + j ≡ local_item m me.unit i))
    nth i g =
        let l = X.locals me.unit R.bodied i g in
        let a = l.0 in
        let b : local_item m me.unit i < unit_of s p + unit_length T (unit_of s p) = subst (λ u. local_item m me.unit i < u + unit_length T u) R.unit l.1 in
        let e = R.unit in
        (local_item m me.unit i - unit_of s p, (omega arith, omega arith))

    -- where the numbers of a variable of its own are
    local_slot : (j k : ℕ) → j < unit_length T (unit_of s p) → is_local T (unit_of s p + j) ≡ true → k < size_of (link_of T (unit_of s p + j))
        → (i : ℕ) × ((i < total_of mine) × (slot_of (link_of T (unit_of s p + j)) p k ≡ local_at p i))
    local_slot j k b e g =
        let o = X.locals_only me.unit R.bodied j (subst (λ u. j < unit_length T u) (inv R.unit) b) (subst (λ u. is_local T (u + j) ≡ true) (inv R.unit) e) in
        let v = o.0 in
        let w : local_item m me.unit o.0 ≡ unit_of s p + j = o.1.1 ∙ ap (λ u. u + j) R.unit in
        let l = subst (λ n. Linked (link_of T n) (get_or mine o.0 no_var) local_at (offset_of mine o.0)) w (X.locals me.unit R.bodied v o.1.0).3 in
        let q : k < (get_or mine o.0 no_var).size = subst (k <◌) l.size g in
        (offset_of mine v + k, (offset_reach mine v k o.1.0 q, l.slot p k q))

    values_in : Filled mine me.variables
    values_in =
        subst (Filled mine) (inv R.variables)
        (values_typed mine s (local_at p 0)
        (λ i k g q.
        let l = (X.locals me.unit R.bodied i g).3 in
        let e = (X.locals me.unit R.bodied i g).2 in
        let j = nth i g in
        let L : Linked (link_of T (unit_of s p + j.0)) (get_or mine i no_var) local_at (offset_of mine i) =
        subst (λ n. Linked (link_of T n) (get_or mine i no_var) local_at (offset_of mine i)) (inv j.1.1) l in
        type_at s (link_of T (unit_of s p + j.0)) (get_or mine i no_var).type (slot_of (link_of T (unit_of s p + j.0)) p k) (local_at p 0 + (offset_of mine i + k)) L.type
        (L.slot p k q ∙ (let z : local_at p (offset_of mine i + k) ≡ local_at p 0 + (offset_of mine i + k) = omega arith in z))
        (st.locals p j.0 k h j.1.0 (subst (λ n. is_local T n ≡ true) (inv j.1.1) e) (subst (k <◌) (inv L.size) q))))

    stands_in : ProcessFits (Belongs m) m me
    stands_in =
        record {
          place = subst (Belongs m me.unit) (inv R.place) (X.places_only me.unit (place_of s p) R.bodied (subst (λ u. Placed T u (place_of s p)) (inv R.unit) (st.places p h)));
          values = values_in;
        }

  module _ (c : ℕ) (h : c < channels_of s) where
    abbrev it : Channel
    it = get_or channels.list c no_channel

    Q : Queued c (get_or channels.list c no_channel)
    Q = channels.each c h

    chart : Channelled T (declared_of s c) Q.capacity Q.types
    chart = subst (λ d. Channelled T d Q.capacity Q.types) Q.item (X.channels it Q.capacity Q.types Q.declared)

    held_long : length it.held ≡ waiting_of s c
    held_long = ap length Q.held ∙ messages_long s (length Q.types) (channel_at c + 2) (waiting_of s c)

    held_get : (n : ℕ) → n < waiting_of s c → get_or it.held n [] ≡ cells s (channel_at c + 2 + fields_most * n) (length Q.types)
    held_get n g = ap (λ (l : List (List ℤ)). get_or l n []) Q.held ∙ messages_get s (length Q.types) (channel_at c + 2) (waiting_of s c) n g

    message_in : (n : ℕ) → n < waiting_of s c → Fielded Q.types (get_or it.held n [])
    message_in n g =
        subst (Fielded Q.types) (inv (held_get n g))
        record {
          long = cells_long s (channel_at c + 2 + fields_most * n) (length Q.types);
          typed = λ f b.
              let e = cells_get s (channel_at c + 2 + fields_most * n) (length Q.types) f b in
              subst (λ z. cast_of (get_or Q.types f 0) z ≡ z) (inv e)
              (subst (λ k. cast_of k (cell_of s (field_at c n f)) ≡ cell_of s (field_at c n f)) (chart.types f b) (st.messages c n f h g (subst (f <◌) (inv chart.fields) b)));
        }

    holds_in : ChannelFits m it
    holds_in =
        record {
          capacity = Q.capacity;
          types = Q.types;
          declared = Q.declared;
          room = let a = st.room c h in let b = chart.capacity in let e = held_long in omega arith;
          messages = λ n g. message_in n (subst (n <◌) held_long g);
        }

  -- ---- what is in use lies in its place
  data Lies (i : ℕ) : Type 0 where
    in_global : (k : ℕ) → k < total_of (globals_of m) → i ≡ global_at_lem k → Lies i
    in_head : (p k : ℕ) → p < processes_of s → k < 2 → i ≡ process_at_lem p + k → Lies i
    in_process : (p k : ℕ) → (h : p < processes_of s) → k < total_of (mine p h) → i ≡ local_at p k → Lies i
    in_record : (c k : ℕ) → c < channels_of s → k < 2 → i ≡ channel_at c + k → Lies i
    in_field : (c n f : ℕ) → c < channels_of s → n < waiting_of s c → f < fields_of T (declared_of s c) → i ≡ field_at c n f → Lies i

  used_lies : {i : ℕ} → Used T s i → Lies i
  used_lies (global_number j k h e g) =
      let o = X.globals_only j h e in
      let l = subst (λ n. Linked (link_of T n) (get_or (globals_of m) o.0 no_var) (λ p n. global_at_lem n) (offset_of (globals_of m) o.0)) o.1.1 (X.globals o.0 o.1.0).2 in
      let q : k < (get_or (globals_of m) o.0 no_var).size = subst (k <◌) l.size g in
      in_global (offset_of (globals_of m) o.0 + k) (offset_reach (globals_of m) o.0 k o.1.0 q) (l.slot 0 k q)
  used_lies (process_unit p h) = in_head p 0 h (omega arith) (omega arith)
  used_lies (process_place p h) = in_head p 1 h (omega arith) refl
  used_lies (local_number p j k h b e g) = let z = local_slot p h j k b e g in in_process p z.0 h z.1.0 z.1.1
  used_lies (channel_item_lem c h) = in_record c 0 h (omega arith) (omega arith)
  used_lies (channel_count c h) = in_record c 1 h (omega arith) refl
  used_lies (field_number c n f h g b) = in_field c n f h g b refl

  -- so what lies nowhere is 0
  nothing_there : (i : ℕ) → 2 ≤ i → i < state_room → (Lies i → ⊥) → cell_of s i ≡ pos 0
  nothing_there i h g n = go (st.unused i h g)
    where
      go : Used T s i ⊎ (cell_of s i ≡ pos 0) → cell_of s i ≡ pos 0
      go (inl u) = absurd (n (used_lies u))
      go (inr e) = e

  -- ---- number by number
  globals_shown : (k : ℕ) → k < globals_most → cell_of s (global_at_lem k) ≡ get_or (flat (values_at (globals_of m) s (global_at_lem 0))) k (pos 0)
  globals_shown k h = go (dec_lt k (total_of (globals_of m))) ∙ ap (λ (l : List ℤ). get_or l k (pos 0)) (inv (values-flat (globals_of m) s (global_at_lem 0)))
    where
      outside : (total_of (globals_of m) ≤ k) → Lies (global_at_lem k) → ⊥
      outside b (in_global n o e) = omega arith
      outside b (in_head p n d o e) = omega arith
      outside b (in_process p n d o e) = omega arith
      outside b (in_record c n d o e) = omega arith
      outside b (in_field c n f d o v e) = omega arith

      go : Dec (k < total_of (globals_of m)) → cell_of s (global_at_lem k) ≡ get_or (cells s (global_at_lem 0) (total_of (globals_of m))) k (pos 0)
      go (yes b) = inv (cells_get s (global_at_lem 0) (total_of (globals_of m)) k b)
      go (no b) = nothing_there (global_at_lem k) (omega arith) (omega arith) (outside (omega arith)) ∙ inv (cells_past s (global_at_lem 0) (total_of (globals_of m)) k (omega arith))

  head-shown : (p : ℕ) (h : p < processes_of s) (k : ℕ) → k < process_size → cell_of s (process_at_lem p + k) ≡ get_or (process_row m (me p h)) k (pos 0)
  head-shown p h zero g =
      ap (cell_of s) (let z : process_at_lem p + 0 ≡ process_at_lem p = omega arith in z)
      ∙ kept-count s (process_at_lem p) (head_of m (me p h).unit) kept_most (st.heads p h).0.0 (let b = (st.heads p h).0.1 in omega arith) (omega arith) (R p h).unit
  head-shown p h (suc zero) g = kept-count s (process_at_lem p + 1) (me p h).place kept_most (st.heads p h).1.0 (let b = (st.heads p h).1.1 in omega arith) (omega arith) (R p h).place
  head-shown p h (suc (suc k)) g =
      ap (cell_of s) (let z : process_at_lem p + suc (suc k) ≡ local_at p k = omega arith in z) ∙ go (dec_lt k (total_of (mine p h)))
      ∙ ap (λ (l : List ℤ). get_or l k (pos 0)) (inv (ap flat (R p h).variables ∙ values-flat (mine p h) s (local_at p 0)))
    where
      few : processes_of s ≤ processes_most
      few = st.processes.1

      outside : total_of (mine p h) ≤ k → Lies (local_at p k) → ⊥
      outside b (in_global n o e) = let w = X.globals_few in omega arith
      outside b (in_head q n d o e) = omega arith
      outside b (in_process q n d o e) =
          let w = X.locals_few (me q d).unit (R q d).bodied in
          let a : p ≡ q = omega arith in
          let c : k ≡ n = omega arith in
          let f : n < total_of (variables_of (unit_at m (get_or processes.list p no_process).unit)) =
          subst (λ i. n < total_of (variables_of (unit_at m (get_or processes.list i no_process).unit))) (inv a) o in
          omega arith
      outside b (in_record c n d o e) = omega arith
      outside b (in_field c n f d o v e) = omega arith

      go : Dec (k < total_of (mine p h)) → cell_of s (local_at p k) ≡ get_or (cells s (local_at p 0) (total_of (mine p h))) k (pos 0)
      go (yes b) = ap (cell_of s) (let z : local_at p k ≡ local_at p 0 + k = omega arith in z) ∙ inv (cells_get s (local_at p 0) (total_of (mine p h)) k b)
      go (no b) = nothing_there (local_at p k) (omega arith) (omega arith) (outside (omega arith)) ∙ inv (cells_past s (local_at p 0) (total_of (mine p h)) k (omega arith))

  record_shown : (c : ℕ) (h : c < channels_of s) (k : ℕ) → k < channel_size → cell_of s (channel_at c + k) ≡ get_or (channel_row m (it c h)) k (pos 0)
  record_shown c h zero g =
      ap (cell_of s) (let z : channel_at c + 0 ≡ channel_at c = omega arith in z)
      ∙ kept-count s (channel_at c) (channel_item m (it c h)) kept_most (st.records c h).0.0 (let b = (st.records c h).0.1 in omega arith) (omega arith) (Q c h).item
  record_shown c h (suc zero) g = kept-count s (channel_at c + 1) (length (it c h).held) kept_most (st.records c h).1.0 (let b = (st.records c h).1.1 in omega arith) (omega arith) (held_long c h)
  record_shown c h (suc (suc k)) g =
      ap (cell_of s) (let z : channel_at c + suc (suc k) ≡ field_at c (k / fields_most) (k % fields_most) = omega arith in z) ∙ go (dec_lt (k / fields_most) (waiting_of s c)) (dec_lt (k % fields_most) (fields_of T (declared_of s c)))
      ∙ inv (row_any message_row fields_most capacity_most (it c h).held (k / fields_most) (k % fields_most) (omega arith) (omega arith))
      ∙ ap (λ i. get_or (rows message_row fields_most capacity_most (it c h).held) i (pos 0)) (let e = at_four message_row (k / fields_most) in let z : off message_row fields_most (k / fields_most) + k % fields_most ≡ k = omega arith in z)
    where
      few : channels_of s ≤ channels_most
      few = st.channels.1

      outside : (k / fields_most < waiting_of s c → k % fields_most < fields_of T (declared_of s c) → ⊥) → Lies (field_at c (k / fields_most) (k % fields_most)) → ⊥
      outside b (in_global n o e) = let w = X.globals_few in omega arith
      outside b (in_head q n d o e) = let w = st.processes.1 in omega arith
      outside b (in_process q n d o e) = let w = X.locals_few (me q d).unit (R q d).bodied in let v = st.processes.1 in omega arith
      outside b (in_record q n d o e) = let w = st.channels.1 in omega arith
      outside b (in_field q n f d o v e) =
          let w = (chart q d).narrow in
          let z = (chart q d).fields in
          let y = (st.records q d).1.1 in
          let a = field-same c (k / fields_most) (k % fields_most) q n f (omega arith) (omega arith) (omega arith) (omega arith) e in
          b (subst (λ i. k / fields_most < waiting_of s i) (inv a.0) (subst (◌< waiting_of s q) (inv a.1) o))
          (subst (λ i. k % fields_most < fields_of T (declared_of s i)) (inv a.0) (subst (◌< fields_of T (declared_of s q)) (inv a.2) v))

      row : get_or (map message_row (it c h).held) (k / fields_most) [] ≡ get_or (it c h).held (k / fields_most) []
      row = same (it c h).held (k / fields_most)
        where
          same : (l : List (List ℤ)) (i : ℕ) → get_or (map message_row l) i [] ≡ get_or l i []
          same [] i = refl
          same (x ∷ l) zero = refl
          same (x ∷ l) (suc i) = same l i

      go : Dec (k / fields_most < waiting_of s c) → Dec (k % fields_most < fields_of T (declared_of s c)) → cell_of s (field_at c (k / fields_most) (k % fields_most)) ≡ get_or (get_or (map message_row (it c h).held) (k / fields_most) []) (k % fields_most) (pos 0)
      go (yes a) (yes b) =
          inv (ap (λ (l : List ℤ). get_or l (k % fields_most) (pos 0)) (row ∙ held_get c h (k / fields_most) a)
          ∙ cells_get s (channel_at c + 2 + fields_most * (k / fields_most)) (length (Q c h).types) (k % fields_most) (subst (k % fields_most <◌) (chart c h).fields b))
      go (yes a) (no b) =
          nothing_there (field_at c (k / fields_most) (k % fields_most)) (omega arith) (omega arith) (outside (λ u v. b v))
          ∙ inv (ap (λ (l : List ℤ). get_or l (k % fields_most) (pos 0)) (row ∙ held_get c h (k / fields_most) a)
          ∙ cells_past s (channel_at c + 2 + fields_most * (k / fields_most)) (length (Q c h).types) (k % fields_most) (let e = (chart c h).fields in omega arith))
      go (no a) b =
          nothing_there (field_at c (k / fields_most) (k % fields_most)) (omega arith) (omega arith) (outside (λ u v. a u))
          ∙ inv (ap (λ (l : List ℤ). get_or l (k % fields_most) (pos 0)) (row ∙ get_past (it c h).held [] (k / fields_most) (let e = held_long c h in omega arith)) ∙ get_past [] (pos 0) (k % fields_most) (omega arith))

  shown : Shown m σ s
  shown =
      record {
        processes_count = kept-count s 0 (length processes.list) processes_most st.processes.0 st.processes.1 (omega arith) processes.long;
        channels_count = kept-count s 1 (length channels.list) channels_most st.channels.0 st.channels.1 (omega arith) channels.long;
        globals = globals_shown;
        processes = λ p k h g. process p k h g (dec_lt p (processes_of s));
        channels = λ c k h g. channel c k h g (dec_lt c (channels_of s));
        rest = λ i h g. nothing_there i (omega arith) g (behind i h);
      }
    where
      behind : (i : ℕ) → channel_at channels_most ≤ i → Lies i → ⊥
      behind i h (in_global n o e) = let w = X.globals_few in omega arith
      behind i h (in_head p n d o e) = let w = st.processes.1 in omega arith
      behind i h (in_process p n d o e) = let w = st.processes.1 in let v = X.locals_few (me p d).unit (R p d).bodied in omega arith
      behind i h (in_record c n d o e) = let w = st.channels.1 in omega arith
      behind i h (in_field c n f d o v e) = let w = st.channels.1 in let x = (chart c d).narrow in let y = (chart c d).fields in let z = (st.records c d).1.1 in omega arith

      process : (p k : ℕ) → p < processes_most → k < process_size → Dec (p < processes_of s) → cell_of s (process_at_lem p + k) ≡ get_or (get_or (map (process_row m) processes.list) p []) k (pos 0)
      process p k h g (yes b) =
          head-shown p b k g ∙ ap (λ (l : List ℤ). get_or l k (pos 0)) (inv (get_map (process_row m) processes.list no_process [] p (subst (p <◌) (inv processes.long) b)))
      process p k h g (no b) =
          nothing_there (process_at_lem p + k) (omega arith) (omega arith) outside
          ∙ inv (ap (λ (l : List ℤ). get_or l k (pos 0)) (get_past (map (process_row m) processes.list) [] p (let e = map_long (process_row m) processes.list in let f = processes.long in omega arith))
          ∙ get_past [] (pos 0) k (omega arith))
        where
          outside : Lies (process_at_lem p + k) → ⊥
          outside (in_global n o e) = let w = X.globals_few in omega arith
          outside (in_head q n d o e) = omega arith
          outside (in_process q n d o e) = let v = X.locals_few (me q d).unit (R q d).bodied in omega arith
          outside (in_record c n d o e) = omega arith
          outside (in_field c n f d o v e) = omega arith

      channel : (c k : ℕ) → c < channels_most → k < channel_size → Dec (c < channels_of s) → cell_of s (channel_at c + k) ≡ get_or (get_or (map (channel_row m) channels.list) c []) k (pos 0)
      channel c k h g (yes b) =
          record_shown c b k g ∙ ap (λ (l : List ℤ). get_or l k (pos 0)) (inv (get_map (channel_row m) channels.list no_channel [] c (subst (c <◌) (inv channels.long) b)))
      channel c k h g (no b) =
          nothing_there (channel_at c + k) (omega arith) (omega arith) outside
          ∙ inv (ap (λ (l : List ℤ). get_or l k (pos 0)) (get_past (map (channel_row m) channels.list) [] c (let e = map_long (channel_row m) channels.list in let f = channels.long in omega arith))
          ∙ get_past [] (pos 0) k (omega arith))
        where
          outside : Lies (channel_at c + k) → ⊥
          outside (in_global n o e) = let w = X.globals_few in omega arith
          outside (in_head q n d o e) = let w = st.processes.1 in omega arith
          outside (in_process q n d o e) = let v = X.locals_few (me q d).unit (R q d).bodied in let w = st.processes.1 in omega arith
          outside (in_record q n d o e) = omega arith
          outside (in_field q n f d o v e) = let x = (chart q d).narrow in let y = (chart q d).fields in let z = (st.records q d).1.1 in omega arith

  fits : Fits (Belongs m) m σ
  fits =
      record {
        globals = values_typed (globals_of m) s (global_at_lem 0)
            (λ i k h g.
            let l = X.globals i h in
            type_at s (link_of T (global_item m i)) (get_or (globals_of m) i no_var).type (slot_of (link_of T (global_item m i)) 0 k) (global_at_lem 0 + (offset_of (globals_of m) i + k)) l.2.type
            (l.2.slot 0 k g ∙ (let z : global_at_lem (offset_of (globals_of m) i + k) ≡ global_at_lem 0 + (offset_of (globals_of m) i + k) = omega arith in z))
            (st.globals (global_item m i) k l.0 l.1 (subst (k <◌) (inv l.2.size) g)));
        processes = let e = processes.long in let w = st.processes.1 in omega arith;
        channels = let e = channels.long in let w = st.channels.1 in omega arith;
        each = λ p h. stands_in p (subst (p <◌) processes.long h);
        queues = λ c h. holds_in c (subst (c <◌) channels.long h);
      }

  -- NUMBERS THAT STAND hold a state that fits, and what lies behind them
  pub stands-holds : (τ : State) × (Fits (Belongs m) m τ × (s ≡ encode m τ ++ drop state_room s))
  stands-holds = (σ, (fits, shown-same m σ s st.long shown))
