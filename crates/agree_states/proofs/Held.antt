-- THE NUMBERS OF A PLAIN STATE THAT FITS are let through by refusal 9 (`fits-stands`), for tables that chart the model.
use Prim.Native.Nat.{ℕ, zero, suc, ◌+◌, ◌-◌, ◌/◌, ◌%◌, ◌<◌, ◌≤◌, min}
use native.Mathlib.Omega.{arith}
use native.Mathlib.Decide.{dec_lt}
use mathlib.Core.Path.{◌≡◌, refl, sym as inv, ap, ◌∙◌, subst}
use mathlib.Core.Bool.{Bool, true, false}
use mathlib.Core.List.{List, [], ◌∷◌, ◌++◌, map}
use mathlib.Core.Logic.{◌⊎◌, inl, inr}
use lib.ListN.{length, get_or, length-append}
use lib.IntN.{ℤ, pos}
use borrow.Author.Tests.{ltb-true}
use lib.Dec.{ltb}
use Rattle.base_ceilings.specs.Ceilings.{capacity_most, channels_most, fields_most, globals_most, numbers_most, processes_most, state_room}
use Rattle.base_codes.specs.Codes.{c_init, c_proctype}
use Rattle.base_bytes.specs.Choice.{pick}
use Rattle.table_layout.specs.Access.{items_of, code_of, link_of}
use Rattle.base_values.specs.Types.{cast_of}
use Rattle.state_layout.specs.Layout.{kept, cell_of, count_of, global_at_lem, process_at_lem, local_at, channel_at, field_at, processes_of, channels_of, unit_of, place_of, declared_of, waiting_of, kept_most, channel_size, process_size}
use Rattle.base_bytes.specs.Numbers.{nat}
use Rattle.step_eval.specs.Variables.{type_of, size_of, slot_of}
use Rattle.state_start.specs.Starting.{unit_length, scanned}
use Rattle.step_ready.specs.Channels.{capacity_of, fields_of}
use Rattle.state_types.specs.Fits.{is_global, is_local}
use Rattle.state_check.specs.Standing.{items_last}
use Rattle.state_check.specs.Meaning as standing
use Rattle.state_check.specs.Meaning.{InType, Counted, Used, global_number, process_unit, process_place, local_number, channel_item_lem, channel_count, field_number}
use Rattle.spec_grammar.specs.Tree.{Model}
use Rattle.spec_machine.specs.State.{Channel, Process, State, no_channel, no_process}
use Rattle.spec_machine.specs.Names.{Var, variables_of, globals_of, unit_at}
use Rattle.spec_machine.specs.Plain.{no_var}
use Rattle.agree_encode.specs.Encode.{flat, head_of, channel_item, message_row, process_row, channel_row, encode}
use Rattle.spec_machine.specs.Places.{Bodied, Belongs, ends, stands}
use Rattle.spec_machine.specs.Fits.{Filled, ChannelFits, Fits}
use Rattle.agree_encode.specs.Tabled.{offset_of, total_of, Linked}
use Rattle.agree_encode.proofs.Rows.{off, row_any, at_four, get_flat}
use Rattle.agree_encode.proofs.Fitting.{ahead_is, flat_long}
use Rattle.step_messages.specs.Messages.{field_type}
use Rattle.agree_states.specs.Charted.{global_item, local_item, Placed, Channelled, Charted}
use Rattle.agree_states.proofs.Cells.{Shown, encode_long, encode-shown}
use Rattle.agree_states.proofs.Slices.{get_past, get_map, map_long, find, offset_reach}

-- an item with a code is one of the tables' items
pub code_inside : (T : List ℕ) (d : ℕ) → 1 ≤ code_of T d → d < items_of T
unfolding code_of
code_inside T d h = go (ltb d (items_of T)) refl h
  where
    go : (b : Bool) → ltb d (items_of T) ≡ b → 1 ≤ pick b (get_or T (4 + d) 0 % 256) 0 → d < items_of T
    go true e g = ltb-true d (items_of T) e
    go false e g = absurd (omega arith)

-- the numbers of variables, from their first on
pub values-cell : (xs : List Var) (l : List (List ℤ)) → Filled xs l → (i k : ℕ) → i < length xs → k < (get_or xs i no_var).size → get_or (flat l) (offset_of xs i + k) (pos 0) ≡ get_or (get_or l i []) k (pos 0)
values-cell xs l v i k h g =
    ap (λ j. get_or (flat l) (j + k) (pos 0)) (inv (ahead_is xs l v.all v.sized i)) ∙ get_flat l i k (subst (i <◌) (inv v.all) h) (subst (k <◌) (inv (v.sized i h)) g)

values_type : (xs : List Var) (l : List (List ℤ)) → Filled xs l → (i k : ℕ) → i < length xs → k < (get_or xs i no_var).size
    → cast_of (get_or xs i no_var).type (get_or (flat l) (offset_of xs i + k) (pos 0)) ≡ get_or (flat l) (offset_of xs i + k) (pos 0)
values_type xs l v i k h g = subst (λ z. cast_of (get_or xs i no_var).type z ≡ z) (inv (values-cell xs l v i k h g)) (v.typed i h k (subst (k <◌) (inv (v.sized i h)) g))

in_type : (s : List ℤ) (l ty i : ℕ) (v : ℤ) → type_of l ≡ ty → cell_of s i ≡ v → cast_of ty v ≡ v → InType s (type_of l) i
in_type s l ty i v e f h = subst (λ n. cast_of n (cell_of s i) ≡ cell_of s i) (inv e) (subst (λ z. cast_of ty z ≡ z) (inv f) h)

-- a number that is counted
counted : (s : List ℤ) (i n most : ℕ) → cell_of s i ≡ kept n → n ≤ most → most ≤ kept_most → Counted s most i
counted s i n most e h g =
    let c : count_of s i ≡ n = ap nat e ∙ (let z : min kept_most n ≡ n = omega arith in z) in
    (e ∙ ap pos (let z : min kept_most n ≡ count_of s i = omega arith in z), subst (◌≤ most) (inv c) h)

count_is : (s : List ℤ) (i n : ℕ) → cell_of s i ≡ kept n → n ≤ kept_most → count_of s i ≡ n
count_is s i n e h = ap nat e ∙ (let z : min kept_most n ≡ n = omega arith in z)

module _ (m : Model) (T : List ℕ) (X : Charted m T) (σ : State) (F : Fits (Belongs m) m σ) (t : List ℤ) where
  abbrev S : List ℤ
  S = encode m σ ++ t

  W : Shown m σ (encode m σ ++ t)
  W = encode-shown m σ t

  pub processes_are : processes_of S ≡ length σ.processes
  processes_are = count_is S 0 (length σ.processes) W.processes_count (let h = F.processes in omega arith)

  pub channels_are : channels_of S ≡ length σ.channels
  channels_are = count_is S 1 (length σ.channels) W.channels_count (let h = F.channels in omega arith)

  -- ---- a process
  module _ (p : ℕ) (h : p < length σ.processes) where
    abbrev me : Process
    me = get_or σ.processes p no_process

    abbrev mine : List Var
    mine = variables_of (unit_at m me.unit)

    pub bodied : Bodied (unit_at m me.unit)
    bodied = go (F.each p h).place
      where
        go : {k j : ℕ} → Belongs m k j → Bodied (unit_at m k)
        go (ends b e) = b
        go (stands b w) = b

    process-cell : (k : ℕ) → k < process_size → cell_of S (process_at_lem p + k) ≡ get_or (process_row m me) k (pos 0)
    process-cell k g = W.processes p k (let w = F.processes in omega arith) g ∙ ap (λ (l : List ℤ). get_or l k (pos 0)) (get_map (process_row m) σ.processes no_process [] p h)

    head_in : head_of m me.unit ≤ items_last T
    head_in = let a = (X.units me.unit bodied).0 in let b = code_inside T (head_of m me.unit) (omega arith) in let c = X.few in omega arith

    place_in : me.place ≤ items_last T
    place_in = let b = (X.places me.unit me.place (F.each p h).place).1 in let c = X.few in omega arith

    head-cell : cell_of S (process_at_lem p) ≡ kept (head_of m me.unit)
    head-cell = ap (cell_of S) (let z : process_at_lem p ≡ process_at_lem p + 0 = omega arith in z) ∙ process-cell 0 (omega arith)

    pub unit_is : unit_of S p ≡ head_of m me.unit
    unit_is = count_is S (process_at_lem p) (head_of m me.unit) head-cell (let z = head_in in omega arith)

    pub place_is : place_of S p ≡ me.place
    place_is = count_is S (process_at_lem p + 1) me.place (process-cell 1 (omega arith)) (let z = place_in in omega arith)

    pub local_cell : (k : ℕ) → k < numbers_most → cell_of S (local_at p k) ≡ get_or (flat me.variables) k (pos 0)
    local_cell k g = ap (cell_of S) (let z : local_at p k ≡ process_at_lem p + suc (suc k) = omega arith in z) ∙ process-cell (suc (suc k)) (omega arith)

    local_type : (j k : ℕ) → j < unit_length T (unit_of S p) → is_local T (unit_of S p + j) ≡ true → k < size_of (link_of T (unit_of S p + j))
        → InType S (type_of (link_of T (unit_of S p + j))) (slot_of (link_of T (unit_of S p + j)) p k)
    local_type j k b e g =
        let o = X.locals_only me.unit bodied j (subst (λ u. j < unit_length T u) unit_is b) (subst (λ u. is_local T (u + j) ≡ true) unit_is e) in
        let v = o.0 in
        let w : local_item m me.unit o.0 ≡ unit_of S p + j = o.1.1 ∙ ap (λ u. u + j) (inv unit_is) in
        let l = subst (λ n. Linked (link_of T n) (get_or mine o.0 no_var) local_at (offset_of mine o.0)) w (X.locals me.unit bodied v o.1.0).3 in
        let q : k < (get_or mine o.0 no_var).size = subst (k <◌) l.size g in
        let r = offset_in o.0 k o.1.0 q in
        in_type S (link_of T (unit_of S p + j)) (get_or mine v no_var).type (slot_of (link_of T (unit_of S p + j)) p k) (get_or (flat me.variables) (offset_of mine v + k) (pos 0)) l.type
        (ap (cell_of S) (l.slot p k q) ∙ local_cell (offset_of mine v + k) r) (values_type mine me.variables (F.each p h).values v k o.1.0 q)
      where
        offset_in : (i k : ℕ) → i < length mine → k < (get_or mine i no_var).size → offset_of mine i + k < numbers_most
        offset_in i k a b = let c = offset_reach mine i k a b in let d = X.locals_few me.unit bodied in omega arith

    -- what stands in its row is in use, or 0
    row_used : (k : ℕ) → k < process_size → Used T S (process_at_lem p + k) ⊎ (cell_of S (process_at_lem p + k) ≡ pos 0)
    row_used zero g = inl (subst (Used T S) (let z : process_at_lem p ≡ process_at_lem p + 0 = omega arith in z) (process_unit p (subst (p <◌) (inv processes_are) h)))
    row_used (suc zero) g = inl (process_place p (subst (p <◌) (inv processes_are) h))
    row_used (suc (suc k)) g = go (dec_lt k (total_of mine))
      where
        go : Dec (k < total_of mine) → Used T S (process_at_lem p + suc (suc k)) ⊎ (cell_of S (process_at_lem p + suc (suc k)) ≡ pos 0)
        go (yes a) =
            let f = find mine k a in
            let l = X.locals me.unit bodied f.variable f.here in
            let i = local_item m me.unit f.variable in
            let e = unit_is in
            let l0 = l.0 in
            let b : local_item m me.unit f.variable < unit_of S p + unit_length T (unit_of S p) = subst (λ u. local_item m me.unit f.variable < u + unit_length T u) (inv unit_is) l.1 in
            let j = i - unit_of S p in
            let w : local_item m me.unit f.variable ≡ unit_of S p + (local_item m me.unit f.variable - unit_of S p) = omega arith in
            let L = subst (λ n. Linked (link_of T n) (get_or mine f.variable no_var) local_at (offset_of mine f.variable)) w l.3 in
            inl (subst (Used T S) (L.slot p f.element f.inside ∙ ap (local_at p) f.is ∙ (let z : local_at p k ≡ process_at_lem p + suc (suc k) = omega arith in z))
            (local_number p j f.element (subst (p <◌) (inv processes_are) h) (omega arith) (subst (λ n. is_local T n ≡ true) w l.2) (subst (f.element <◌) (inv L.size) f.inside)))
        go (no a) =
            inr (process-cell (suc (suc k)) g ∙ get_past (flat me.variables) (pos 0) k (let e = flat_long mine me.variables (F.each p h).values.all (F.each p h).values.sized in omega arith))

  -- ---- a channel
  module _ (c : ℕ) (h : c < length σ.channels) where
    abbrev it : Channel
    it = get_or σ.channels c no_channel

    pub H : ChannelFits m (get_or σ.channels c no_channel)
    H = F.queues c h

    pub chart : Channelled T (channel_item m it) H.capacity H.types
    chart = X.channels it H.capacity H.types H.declared

    channel-cell : (k : ℕ) → k < channel_size → cell_of S (channel_at c + k) ≡ get_or (channel_row m it) k (pos 0)
    channel-cell k g = W.channels c k (let w = F.channels in omega arith) g ∙ ap (λ (l : List ℤ). get_or l k (pos 0)) (get_map (channel_row m) σ.channels no_channel [] c h)

    item_in : channel_item m it ≤ items_last T
    item_in = let a = X.channel_codes it H.capacity H.types H.declared in let b = code_inside T (channel_item m it) (omega arith) in let d = X.few in omega arith

    pub held_few : length it.held ≤ capacity_most
    held_few = let a = H.room in let b = chart.room in omega arith

    item-cell : cell_of S (channel_at c) ≡ kept (channel_item m it)
    item-cell = ap (cell_of S) (let z : channel_at c ≡ channel_at c + 0 = omega arith in z) ∙ channel-cell 0 (omega arith)

    pub declared_is : declared_of S c ≡ channel_item m it
    declared_is = count_is S (channel_at c) (channel_item m it) item-cell (let z = item_in in omega arith)

    pub waiting_is : waiting_of S c ≡ length it.held
    waiting_is = count_is S (channel_at c + 1) (length it.held) (channel-cell 1 (omega arith)) (let z = held_few in omega arith)

    fields_are : fields_of T (declared_of S c) ≡ length H.types
    fields_are = ap (fields_of T) declared_is ∙ chart.fields

    pub field-cell : (n f : ℕ) → n < capacity_most → f < fields_most → cell_of S (field_at c n f) ≡ get_or (get_or it.held n []) f (pos 0)
    field-cell n f a b =
        let e = at_four message_row n in
        ap (cell_of S) (let z : field_at c n f ≡ channel_at c + suc (suc (off message_row fields_most n + f)) = omega arith in z) ∙ channel-cell (suc (suc (off message_row fields_most n + f))) (omega arith)
        ∙ row_any message_row fields_most capacity_most it.held n f a b ∙ ap (λ (l : List ℤ). get_or l f (pos 0)) (same it.held n)
      where
        same : (l : List (List ℤ)) (i : ℕ) → get_or (map message_row l) i [] ≡ get_or l i []
        same [] i = refl
        same (x ∷ l) zero = refl
        same (x ∷ l) (suc i) = same l i

    message_type : (n f : ℕ) → n < waiting_of S c → f < fields_of T (declared_of S c) → InType S (field_type T (declared_of S c) f) (field_at c n f)
    message_type n f a b =
        let u : n < length it.held = subst (n <◌) waiting_is a in
        let v : f < length H.types = subst (f <◌) fields_are b in
        let w = held_few in
        let z = chart.narrow in
        let k : field_type T (declared_of S c) f ≡ get_or H.types f 0 = ap (λ d. field_type T d f) declared_is ∙ chart.types f v in
        subst (λ ty. cast_of ty (cell_of S (field_at c n f)) ≡ cell_of S (field_at c n f)) (inv k)
        (subst (λ y. cast_of (get_or H.types f 0) y ≡ y) (inv (field-cell n f (omega arith) (omega arith))) ((H.messages n u).typed f v))

    record_used : (k : ℕ) → k < channel_size → Used T S (channel_at c + k) ⊎ (cell_of S (channel_at c + k) ≡ pos 0)
    record_used zero g = inl (subst (Used T S) (let z : channel_at c ≡ channel_at c + 0 = omega arith in z) (channel_item_lem c (subst (c <◌) (inv channels_are) h)))
    record_used (suc zero) g = inl (channel_count c (subst (c <◌) (inv channels_are) h))
    record_used (suc (suc k)) g = go (dec_lt (k / fields_most) (length it.held)) (dec_lt (k % fields_most) (length H.types))
      where
        there : field_at c (k / fields_most) (k % fields_most) ≡ channel_at c + suc (suc k)
        there = omega arith

        go : Dec (k / fields_most < length it.held) → Dec (k % fields_most < length H.types) → Used T S (channel_at c + suc (suc k)) ⊎ (cell_of S (channel_at c + suc (suc k)) ≡ pos 0)
        go (yes a) (yes b) =
            inl (subst (Used T S) there (field_number c (k / fields_most) (k % fields_most) (subst (c <◌) (inv channels_are) h) (subst (k / fields_most <◌) (inv waiting_is) a) (subst (k % fields_most <◌) (inv fields_are) b)))
        go (yes a) (no b) =
            inr (ap (cell_of S) (inv there) ∙ field-cell (k / fields_most) (k % fields_most) (omega arith) (omega arith)
            ∙ get_past (get_or it.held (k / fields_most) []) (pos 0) (k % fields_most) (let e = (H.messages (k / fields_most) a).long in omega arith))
        go (no a) b =
            inr (ap (cell_of S) (inv there) ∙ field-cell (k / fields_most) (k % fields_most) (omega arith) (omega arith)
            ∙ ap (λ (l : List ℤ). get_or l (k % fields_most) (pos 0)) (get_past it.held [] (k / fields_most) (omega arith)) ∙ get_past [] (pos 0) (k % fields_most) (omega arith))

  -- ---- globals
  pub global-cell : (k : ℕ) → k < globals_most → cell_of S (global_at_lem k) ≡ get_or (flat σ.globals) k (pos 0)
  global-cell k h = W.globals k h

  global_type : (j k : ℕ) → j < scanned T → is_global T j ≡ true → k < size_of (link_of T j) → InType S (type_of (link_of T j)) (slot_of (link_of T j) 0 k)
  global_type j k h e g =
      let xs = globals_of m in
      let o = X.globals_only j h e in
      let l = subst (λ n. Linked (link_of T n) (get_or (globals_of m) o.0 no_var) (λ p n. global_at_lem n) (offset_of (globals_of m) o.0)) o.1.1 (X.globals o.0 o.1.0).2 in
      let q : k < (get_or (globals_of m) o.0 no_var).size = subst (k <◌) l.size g in
      let r = offset_reach (globals_of m) o.0 k o.1.0 q in
      let w = X.globals_few in
      in_type S (link_of T j) (get_or xs o.0 no_var).type (slot_of (link_of T j) 0 k) (get_or (flat σ.globals) (offset_of (globals_of m) o.0 + k) (pos 0)) l.type
      (ap (cell_of S) (l.slot 0 k q) ∙ global-cell (offset_of (globals_of m) o.0 + k) (omega arith)) (values_type xs σ.globals F.globals o.0 k o.1.0 q)

  global_used : (k : ℕ) → k < globals_most → Used T S (global_at_lem k) ⊎ (cell_of S (global_at_lem k) ≡ pos 0)
  global_used k h = go (dec_lt k (total_of (globals_of m)))
    where
      go : Dec (k < total_of (globals_of m)) → Used T S (global_at_lem k) ⊎ (cell_of S (global_at_lem k) ≡ pos 0)
      go (yes a) =
          let f = find (globals_of m) k a in
          let l = X.globals f.variable f.here in
          inl (subst (Used T S) (l.2.slot 0 f.element f.inside ∙ ap global_at_lem f.is)
          (global_number (global_item m f.variable) f.element l.0 l.1 (subst (f.element <◌) (inv l.2.size) f.inside)))
      go (no a) = inr (global-cell k h ∙ get_past (flat σ.globals) (pos 0) k (let e = flat_long (globals_of m) σ.globals F.globals.all F.globals.sized in omega arith))

  -- ---- every number
  no_process_lem : (p k : ℕ) → p < processes_most → k < process_size → length σ.processes ≤ p → cell_of S (process_at_lem p + k) ≡ pos 0
  no_process_lem p k h g a =
      W.processes p k h g ∙ ap (λ (l : List ℤ). get_or l k (pos 0)) (get_past (map (process_row m) σ.processes) [] p (let e = map_long (process_row m) σ.processes in omega arith))
      ∙ get_past [] (pos 0) k (omega arith)

  no_channel_lem : (c k : ℕ) → c < channels_most → k < channel_size → length σ.channels ≤ c → cell_of S (channel_at c + k) ≡ pos 0
  no_channel_lem c k h g a =
      W.channels c k h g ∙ ap (λ (l : List ℤ). get_or l k (pos 0)) (get_past (map (channel_row m) σ.channels) [] c (let e = map_long (channel_row m) σ.channels in omega arith))
      ∙ get_past [] (pos 0) k (omega arith)

  abbrev Spent : ℕ → Type 0
  Spent n = Used T S n ⊎ (cell_of S n ≡ pos 0)

  unused : (i : ℕ) → 2 ≤ i → i < state_room → Used T S i ⊎ (cell_of S i ≡ pos 0)
  unused i h g = go (dec_lt i (process_at_lem 0)) (dec_lt i (channel_at 0)) (dec_lt i (channel_at channels_most)) (dec_lt ((i - process_at_lem 0) / process_size) (length σ.processes)) (dec_lt ((i - channel_at 0) / channel_size) (length σ.channels))
    where
      go : Dec (i < process_at_lem 0) → Dec (i < channel_at 0) → Dec (i < channel_at channels_most) → Dec ((i - process_at_lem 0) / process_size < length σ.processes) → Dec ((i - channel_at 0) / channel_size < length σ.channels) → Used T S i ⊎ (cell_of S i ≡ pos 0)
      go (yes a) b c d e = subst Spent (let z : global_at_lem (i - 2) ≡ i = omega arith in z) (global_used (i - 2) (omega arith))
      go (no a) (yes b) c (yes d) e = subst Spent (let z : process_at_lem ((i - process_at_lem 0) / process_size) + (i - process_at_lem 0) % process_size ≡ i = omega arith in z) (row_used ((i - process_at_lem 0) / process_size) d ((i - process_at_lem 0) % process_size) (omega arith))
      go (no a) (yes b) c (no d) e =
          subst Spent (let z : process_at_lem ((i - process_at_lem 0) / process_size) + (i - process_at_lem 0) % process_size ≡ i = omega arith in z) (inr (no_process_lem ((i - process_at_lem 0) / process_size) ((i - process_at_lem 0) % process_size) (omega arith) (omega arith) (omega arith)))
      go (no a) (no b) (yes c) d (yes e) = subst Spent (let z : channel_at ((i - channel_at 0) / channel_size) + (i - channel_at 0) % channel_size ≡ i = omega arith in z) (record_used ((i - channel_at 0) / channel_size) e ((i - channel_at 0) % channel_size) (omega arith))
      go (no a) (no b) (yes c) d (no e) =
          subst Spent (let z : channel_at ((i - channel_at 0) / channel_size) + (i - channel_at 0) % channel_size ≡ i = omega arith in z) (inr (no_channel_lem ((i - channel_at 0) / channel_size) ((i - channel_at 0) % channel_size) (omega arith) (omega arith) (omega arith)))
      go (no a) (no b) (no c) d e = inr (W.rest i (omega arith) g)

  -- THE NUMBERS OF A STATE THAT FITS stand
  pub fits-stands : standing.IsState T (encode m σ ++ t)
  fits-stands =
      record {
        long = let e = length-append (encode m σ) t in let f = encode_long m σ in omega arith;
        processes = counted S 0 (length σ.processes) processes_most W.processes_count F.processes (omega arith);
        channels = counted S 1 (length σ.channels) channels_most W.channels_count F.channels (omega arith);
        heads = λ p g. let h = there p g in (
          counted S (process_at_lem p) (head_of m (me p h).unit) (items_last T) (head-cell p h) (head_in p h) (omega arith),
          counted S (process_at_lem p + 1) (me p h).place (items_last T) (process-cell p h 1 (omega arith)) (place_in p h) (omega arith),
        );
        records = λ c g. let h = made c g in (
          counted S (channel_at c) (channel_item m (it c h)) (items_last T) (item-cell c h) (item_in c h) (omega arith),
          counted S (channel_at c + 1) (length (it c h).held) capacity_most (channel-cell c h 1 (omega arith)) (held_few c h) (omega arith),
        );
        globals = global_type;
        locals = λ p j k g b e q. local_type p (there p g) j k b e q;
        units = λ p g. let h = there p g in
            subst (λ u. (c_proctype ≤ code_of T u) × (code_of T u ≤ c_init)) (inv (unit_is p h)) (X.units (me p h).unit (bodied p h));
        places = λ p g. let h = there p g in
            subst (λ u. Placed T u (place_of S p)) (inv (unit_is p h))
            (subst (Placed T (head_of m (me p h).unit)) (inv (place_is p h)) (X.places (me p h).unit (me p h).place (F.each p h).place).0);
        declarations = λ c g. let h = made c g in ap (code_of T) (declared_is c h) ∙ X.channel_codes (it c h) (H c h).capacity (H c h).types (H c h).declared;
        room = λ c g. let h = made c g in
            let a = waiting_is c h in
            let b : capacity_of T (declared_of S c) ≡ (H c h).capacity = ap (capacity_of T) (declared_is c h) ∙ (chart c h).capacity in
            let d = (H c h).room in
            omega arith;
        messages = λ c n f g a b. message_type c (made c g) n f a b;
        unused = unused;
      }
    where
      there : (p : ℕ) → p < processes_of S → p < length σ.processes
      there p g = subst (p <◌) processes_are g

      made : (c : ℕ) → c < channels_of S → c < length σ.channels
      made c g = subst (c <◌) channels_are g
