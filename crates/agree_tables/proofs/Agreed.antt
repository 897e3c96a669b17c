-- THE STAGE OF TABLES AND NUMBERS AGREES WITH THE PLAIN ONE, for tables that say of the model what specs/Tabled.antt of `agree_encode` names.
use Prim.Native.Nat.{ℕ, suc, ◌+◌, ◌-◌, ◌*◌, ◌<◌, ◌≤◌, min}
use native.Mathlib.Omega.{arith}
use borrow.Author.Tests.{lt-ltb, ltb-true, leb-true}
use mathlib.Core.Path.{◌≡◌, refl, sym as inv, ap, ap₂, ◌∙◌, subst}
use mathlib.Core.Bool.{Bool, true, false}
use mathlib.Core.List.{List, [], ◌∷◌, ◌++◌}
use lib.ListN.{length, get_or, set, length-append, length-set}
use lib.Seq.{get_or-set_same}
use lib.IntN.{ℤ, pos}
use lib.Dec.{ltb, leb}
use Rattle.base_ceilings.specs.Ceilings.{capacity_most, channels_most, fields_most, globals_most, items_most, numbers_most, processes_most}
use Rattle.base_bytes.specs.Choice.{pick, both}
use Rattle.base_bytes.specs.Lists.{same}
use Rattle.spec_text.specs.Names.{pid}
use Rattle.base_bytes.proofs.Tests.{true_false, both_true}
use Rattle.table_layout.specs.Access.{link_of}
use Rattle.base_values.specs.Types.{cast_of}
use Rattle.state_layout.specs.Layout.{kept, cell_of, local_at, global_at_lem, channel_at, field_at, declared_of, waiting_of, field_of, kept_most}
use Rattle.base_bytes.specs.Numbers.{nat}
use Rattle.step_eval.specs.Variables.{type_of, size_of, slot_of, made_of}
use Rattle.step_ready.specs.Channels.{capacity_of, fields_of}
use Rattle.step_ready.specs.Executing.{fits_of}
use Rattle.step_messages.specs.Messages.{field_type, put_in, taken_out}
use Rattle.step_statements.specs.Statements.{moved}
use Rattle.step_take.specs.Effects.{called}
use Rattle.spec_grammar.specs.Tree.{Name, Model}
use Rattle.spec_rules.specs.Roles.{operand}
use Rattle.legal_rules.specs.Expressions.{usable}
use Rattle.spec_rules.specs.Ceilings.{made_by_body}
use Rattle.spec_rules.specs.Statements.{Place, sense}
use Rattle.legal_rules.specs.Statements.{runs}
use Rattle.agree_stage.specs.Scenes.{number_at}
use Rattle.agree_stage.specs.Tables.{stage_in}
use Rattle.agree_transfer.specs.Agrees.{Agrees}
use Rattle.spec_machine.specs.Messages.{put_at, take_at_lem}
use Rattle.spec_machine.proofs.Messages.{put-length, take_length_less, put-each, take-each}
use Rattle.spec_machine.specs.State.{Channel, Process, State, no_channel, no_process}
use Rattle.spec_machine.specs.Names.{Var, Meaning, local, global, self, variables_of, parameters_of, locals_of, globals_of, unit_at, proctype_of, meant}
use Rattle.spec_machine.specs.Begins.{items_before, body_in, body_of, first_in, makes_all, given, begins}
use Rattle.spec_machine.specs.Plain as plain
use Rattle.spec_machine.specs.Plain.{no_var, declared_by, capacity_in, types_in, cast_all, with_channel, numbers_of, stored, goes, plain_stage}
use Rattle.agree_encode.specs.Encode.{flat, channel_item, message_row, channel_row, encode}
use Rattle.spec_machine.specs.Fits.{Filled, Fielded, ChannelFits, Fits}
use Rattle.agree_encode.specs.Tabled.{is_variable, offset_of, Item, of_local, of_global, of_message, Tabled}
use Rattle.agree_encode.proofs.Rows.{get_left, ahead, off, get_rows, at_four}
use Rattle.agree_encode.proofs.Numbers.{processes_are, channels_are, local_is, local_stored, global_is, global-stored, go_is, channel-cell, declared_is, waiting_is}
use Rattle.agree_encode.proofs.Queues.{take_is, put_is}
use Rattle.agree_encode.proofs.Fitting.{ahead_is, flat_long, values-stored, cast_message, globals_fit, process-fits, channel-fits, go_fits}

module _ (P : ℕ → ℕ → Type 0) (m : Model) (u : ℕ) (at : Place) (T : List ℕ) (decl head : Name → ℕ) (X : Tabled P m u at T decl head) (p : ℕ) (t : List ℤ) where
  -- the numbers s hold the state σ of the model, and process p is of unit u
  pub record Kept (σ : State) (s : List ℤ) : Type 0 where
    pub fits : Fits P m σ
    pub is : s ≡ encode m σ ++ t
    pub here : p < length σ.processes
    pub unit : (get_or σ.processes p no_process).unit ≡ u

  abbrev Vs : List Var
  Vs = variables_of (unit_at m u)

  abbrev Gs : List Var
  Gs = globals_of m

  before_more : (l : List Process) (y : Process) → p < length l → (p < length (l ++ y ∷ [])) × ((get_or (l ++ y ∷ []) p no_process).unit ≡ (get_or l p no_process).unit)
  before_more l y h = (let e = length-append l (y ∷ []) in omega arith, ap (λ (x : Process). x.unit) (get_left l (y ∷ []) no_process p h))

  -- ---- variables of a state that is kept
  module _ (σ : State) (k : Kept σ (encode m σ ++ t)) where
    abbrev S : List ℤ
    S = encode m σ ++ t

    abbrev me : Process
    me = get_or σ.processes p no_process

    own : Filled (variables_of (unit_at m u)) me.variables
    own = subst (λ n. Filled (variables_of (unit_at m n)) me.variables) k.unit (k.fits.each p k.here).values

    local_there : (i : ℕ) (x : Var) (n : ℕ) → i < length Vs → get_or Vs i no_var ≡ x → n < x.size → n < length (get_or me.variables i [])
    local_there i x n h e g = subst (n <◌) (inv (own.sized i h ∙ ap (λ (y : Var). y.size) e)) g

    local_few : length (flat me.variables) ≤ numbers_most
    local_few = subst (◌≤ numbers_most) (inv (flat_long Vs me.variables own.all own.sized)) X.locals

    local_at_lem : (i : ℕ) → ahead me.variables i ≡ offset_of Vs i
    local_at_lem i = ahead_is Vs me.variables own.all own.sized i

    global_there : (i : ℕ) (x : Var) (n : ℕ) → i < length Gs → get_or Gs i no_var ≡ x → n < x.size → n < length (get_or σ.globals i [])
    global_there i x n h e g = subst (n <◌) (inv (k.fits.globals.sized i h ∙ ap (λ (y : Var). y.size) e)) g

    global_few : length (flat σ.globals) ≤ globals_most
    global_few = subst (◌≤ globals_most) (inv (flat_long Gs σ.globals k.fits.globals.all k.fits.globals.sized)) X.globals

    global_at : (i : ℕ) → ahead σ.globals i ≡ offset_of Gs i
    global_at i = ahead_is Gs σ.globals k.fits.globals.all k.fits.globals.sized i

    -- number n of what a name means
    element_is : (d : ℕ) (q : Meaning) → Item T m u d q → is_variable q ≡ true → (n : ℕ) → n < plain.size_meant m 0 q → get_or (numbers_of m p σ q) n (pos 0) ≡ cell_of S (slot_of (link_of T d) p n)
    element_is d _ (of_local {i = i} {x = x} h e g a b l) z n r =
        inv (local_is m t σ p k.here k.fits.processes i n (subst (i <◌) (inv own.all) h) (local_there i x n h e r) local_few)
        ∙ ap (λ j. cell_of S (local_at p (j + n))) (local_at_lem i) ∙ ap (cell_of S) (inv (l.slot p n r))
    element_is d _ (of_global {i = i} {x = x} h e g a b l) z n r =
        inv (global_is m t σ i n (subst (i <◌) (inv k.fits.globals.all) h) (global_there i x n h e r) global_few)
        ∙ ap (λ j. cell_of S (global_at_lem (j + n))) (global_at i) ∙ ap (cell_of S) (inv (l.slot p n r))
    element_is d _ (of_message a b c) z n r = absurd (true_false (inv z))

    number_is : (d : ℕ) (q : Meaning) → Item T m u d q → get_or (numbers_of m p σ q) 0 (pos 0) ≡ number_at T S p d
    unfolding number_at
    number_is d _ (of_local {i = i} {x = x} h e g a b l) = rw (a, b) (element_is d (local i x) (of_local h e g a b l) refl 0 (omega arith))
    number_is d _ (of_global {i = i} {x = x} h e g a b l) = rw (a, b) (element_is d (global i x) (of_global h e g a b l) refl 0 (omega arith))
    number_is d _ (of_message {n = n} a b c) = rw (a, b) (ap pos (let z : n ≡ min kept_most n = omega arith in z))

    -- `_pid` is the number of the process
    pid-means : (w : Name) → same w pid ≡ true → meant m (unit_at m u) w ≡ self
    unfolding meant
    pid-means w e = rw e

    number_of : (w : Name) → usable (sense at) operand false w ≡ true → get_or (numbers_of m p σ (meant m (unit_at m u) w)) 0 (pos 0) ≡ pick (same w pid) (pos p) (number_at T S p (decl w))
    number_of w h = go (same w pid) refl
      where
        go : (b : Bool) → same w pid ≡ b → get_or (numbers_of m p σ (meant m (unit_at m u) w)) 0 (pos 0) ≡ pick b (pos p) (number_at T S p (decl w))
        go true e = ap (λ q. get_or (numbers_of m p σ q) 0 (pos 0)) (pid-means w e)
        go false e = number_is (decl w) (meant m (unit_at m u) w) (X.names w e h)

    -- a value stored in it
    store_is : (d : ℕ) (q : Meaning) → Item T m u d q → is_variable q ≡ true → (n : ℕ) (v : ℤ) → n < plain.size_meant m 0 q
        → Kept (stored m p q n v σ) (set S (slot_of (link_of T d) p n) (cast_of (type_of (link_of T d)) v))
    store_is d _ (of_local {i = i} {x = x} h e g a b l) z n v r =
        let y : Process = record { unit = me.unit; place = me.place; variables = plain.one_stored me.variables i n (cast_of x.type v) } in
        record {
          fits = process-fits P m σ k.fits p y
              record {
                place = (k.fits.each p k.here).place;
                values = subst (λ w. Filled (variables_of (unit_at m w)) (plain.one_stored me.variables i n (cast_of x.type v))) (inv k.unit)
                    (subst (λ (w : Var). Filled Vs (plain.one_stored me.variables i n (cast_of w.type v))) e (values-stored Vs me.variables i n v h own));
              };
          is = ap₂ (λ j ty. set S j (cast_of ty v)) (l.slot p n r ∙ ap (λ j. local_at p (j + n)) (inv (local_at_lem i))) l.type
              ∙ local_stored m t σ p k.here k.fits.processes i n (cast_of x.type v) (subst (i <◌) (inv own.all) h) (local_there i x n h e r) local_few;
          here = subst (p <◌) (inv (length-set σ.processes p y)) k.here;
          unit = ap (λ (w : Process). w.unit) (get_or-set_same σ.processes p y no_process k.here) ∙ k.unit;
        }
    store_is d _ (of_global {i = i} {x = x} h e g a b l) z n v r =
        record {
          fits = globals_fit P m σ k.fits (plain.one_stored σ.globals i n (cast_of x.type v))
              (subst (λ (w : Var). Filled Gs (plain.one_stored σ.globals i n (cast_of w.type v))) e (values-stored Gs σ.globals i n v h k.fits.globals));
          is = ap₂ (λ j ty. set S j (cast_of ty v)) (l.slot p n r ∙ ap (λ j. global_at_lem (j + n)) (inv (global_at i))) l.type
              ∙ global-stored m t σ i n (cast_of x.type v) (subst (i <◌) (inv k.fits.globals.all) h) (global_there i x n h e r) global_few;
          here = k.here;
          unit = k.unit;
        }
    store_is d _ (of_message a b c) z n v r = absurd (true_false (inv z))

    go_kept : (n : ℕ) → P u n → Kept (goes m p n σ) (moved p n S)
    go_kept n g =
        let y : Process = record { unit = me.unit; place = n; variables = me.variables } in
        record {
          fits = go_fits P m σ k.fits p n k.here (subst (λ w. P w n) (inv k.unit) g);
          is = go_is m t σ p k.here k.fits.processes n;
          here = subst (p <◌) (inv (length-set σ.processes p y)) k.here;
          unit = ap (λ (w : Process). w.unit) (get_or-set_same σ.processes p y no_process k.here) ∙ k.unit;
        }

    -- ---- channels that were made
    made_is : (v : ℤ) → both (ltb 0 (nat v)) (leb (nat v) (length σ.channels)) ≡ made_of S (nat v)
    made_is v = ap (λ n. both (ltb 0 (nat v)) (leb (nat v) n)) (inv (channels_are m t σ k.fits.channels))

    module _ (v : ℤ) (made : both (ltb 0 (nat v)) (leb (nat v) (length σ.channels)) ≡ true) where
      there : nat v - 1 < length σ.channels
      there =
          let b = both_true (ltb 0 (nat v)) (leb (nat v) (length σ.channels)) made in
          let x = ltb-true 0 (nat v) b.0 in
          let y = leb-true (nat v) (length σ.channels) b.1 in
          omega arith

      abbrev ch : Channel
      ch = get_or σ.channels (nat v - 1) no_channel

      H : ChannelFits m (get_or σ.channels (nat v - 1) no_channel)
      H = k.fits.queues (nat v - 1) there

      told : (channel_item m ch ≤ items_most) × (capacity_of T (channel_item m ch) ≡ H.capacity) × (fields_of T (channel_item m ch) ≡ length H.types) × (H.capacity ≤ capacity_most) × (length H.types ≤ fields_most)
      told = X.channels ch H.capacity H.types H.declared

      item_is : declared_of S (nat v - 1) ≡ channel_item m ch
      item_is = declared_is m t σ (nat v - 1) there k.fits.channels (let e = told.0 in omega arith)

      held_few : length ch.held ≤ capacity_most
      held_few = let a = H.room in let b = told.3 in omega arith

      waits_is : length ch.held ≡ waiting_of S (nat v - 1)
      waits_is = inv (waiting_is m t σ (nat v - 1) there k.fits.channels held_few)

      capacity_is : capacity_in (declared_by m ch) ≡ capacity_of T (declared_of S (nat v - 1))
      capacity_is = ap capacity_in H.declared ∙ inv told.1 ∙ ap (capacity_of T) (inv item_is)

      fields_are : length (types_in (declared_by m ch)) ≡ fields_of T (declared_of S (nat v - 1))
      fields_are = ap (λ w. length (types_in w)) H.declared ∙ inv told.2 ∙ ap (fields_of T) (inv item_is)

      message_is : (w f : ℕ) → ltb w (length ch.held) ≡ true → ltb f (length (types_in (declared_by m ch))) ≡ true → get_or (get_or ch.held w []) f (pos 0) ≡ field_of S (nat v - 1) w f
      message_is w f h l =
          let a = ltb-true w (length ch.held) h in
          let b : f < length H.types = subst (f <◌) (ap (λ w. length (types_in w)) H.declared) (ltb-true f (length (types_in (declared_by m ch))) l) in
          let c = told.4 in
          let few = held_few in
          inv (get_rows message_row fields_most capacity_most ch.held [] w f a (omega arith) (omega arith))
          ∙ ap (λ j. get_or (channel_row m ch) j (pos 0)) (let e = at_four message_row w in let z : suc (suc (off message_row fields_most w + f)) ≡ 2 + (fields_most * w + f) = omega arith in z)
          ∙ inv (channel-cell m t σ (nat v - 1) there k.fits.channels (2 + (fields_most * w + f)) (omega arith))
          ∙ ap (cell_of S) (let z : channel_at (nat v - 1) + (2 + (fields_most * w + f)) ≡ field_at (nat v - 1) w f = omega arith in z)

      put-kept : (w : ℕ) (vs : List ℤ) → ltb (length ch.held) (capacity_in (declared_by m ch)) ≡ true → w ≡ length ch.held → length vs ≡ length (types_in (declared_by m ch))
          → Kept (with_channel (nat v - 1) (put_at w (cast_all (types_in (declared_by m ch)) vs) ch.held) σ) (put_in T (nat v - 1) w vs S)
      put-kept w vs r q l =
          let room : length ch.held < H.capacity = subst (length ch.held <◌) (ap capacity_in H.declared) (ltb-true (length ch.held) (capacity_in (declared_by m ch)) r) in
          let same : types_in (declared_by m ch) ≡ H.types = ap types_in H.declared in
          let long : length vs ≡ length H.types = l ∙ ap length same in
          let n = length ch.held in
          let e : Kept (with_channel (nat v - 1) (put_at n (cast_all H.types vs) ch.held) σ) (put_in T (nat v - 1) n vs S) =
          record {
            fits = channel-fits P m σ k.fits (nat v - 1) (put_at n (cast_all H.types vs) ch.held)
                record {
                  capacity = H.capacity;
                  types = H.types;
                  declared = H.declared;
                  room = subst (◌≤ H.capacity) (inv (put-length n (cast_all H.types vs) ch.held)) (omega arith);
                  messages = put-each (Fielded H.types) n ch.held [] H.messages (cast_all H.types vs) (omega arith) (cast_message H.types vs long);
                };
            is = put_is m t σ (nat v - 1) there k.fits.channels T H.types vs long told.4 (let b = told.3 in omega arith)
                (ap (fields_of T) item_is ∙ told.2) (λ i g. ap (λ d. field_type T d i) item_is ∙ X.fields ch H.capacity H.types H.declared i g);
            here = k.here;
            unit = k.unit;
          } in
          subst (λ w. Kept (with_channel (nat v - 1) (put_at w (cast_all (types_in (declared_by m ch)) vs) ch.held) σ) (put_in T (nat v - 1) w vs S)) (inv q)
          (subst (λ (ks : List ℕ). Kept (with_channel (nat v - 1) (put_at n (cast_all ks vs) ch.held) σ) (put_in T (nat v - 1) n vs S)) (inv same) e)

      take-kept : (w : ℕ) → ltb w (length ch.held) ≡ true → Kept (with_channel (nat v - 1) (take_at_lem w ch.held) σ) (taken_out (nat v - 1) w S)
      take-kept w h =
          let a = ltb-true w (length ch.held) h in
          record {
            fits = channel-fits P m σ k.fits (nat v - 1) (take_at_lem w ch.held)
                record {
                  capacity = H.capacity;
                  types = H.types;
                  declared = H.declared;
                  room = let b = H.room in let e = take_length_less w ch.held a in omega arith;
                  messages = take-each (Fielded H.types) w ch.held [] H.messages a;
                };
            is = take_is m t σ (nat v - 1) there k.fits.channels w a held_few;
            here = k.here;
            unit = k.unit;
          }

    -- ---- room for a process
    room_is : (w : Name) (n : ℕ) → runs at w n ≡ true
        → both (ltb (length σ.processes) processes_most) (leb (length σ.channels + made_by_body (body_of (unit_at m (proctype_of m w)))) channels_most) ≡ fits_of T S (head w)
    unfolding fits_of
    room_is w n h =
        ap₂ (λ a b. both (ltb a processes_most) (leb b channels_most)) (inv (processes_are m t σ k.fits.processes))
        (ap₂ ◌+◌ (inv (channels_are m t σ k.fits.channels)) (inv (X.makes w n h)))

    begins-before : (n : ℕ) (vs : List ℤ) → (p < length (begins m n vs σ).processes) × ((get_or (begins m n vs σ).processes p no_process).unit ≡ (get_or σ.processes p no_process).unit)
    unfolding begins
    begins-before n vs =
        before_more σ.processes
        record {
          unit = n;
          place = first_in (body_of (unit_at m n)) (body_in (unit_at m n) (items_before m n));
          variables = (makes_all m n (length (parameters_of (unit_at m n))) (locals_of (body_of (unit_at m n))) record { values = given m (parameters_of (unit_at m n)) vs; channels = σ.channels }).values;
        } k.here

    begin_kept : (w : Name) (vs : List ℤ) → runs at w (length vs) ≡ true
        → both (ltb (length σ.processes) processes_most) (leb (length σ.channels + made_by_body (body_of (unit_at m (proctype_of m w)))) channels_most) ≡ true
        → Kept (begins m (proctype_of m w) vs σ) (called T (head w) vs S)
    begin_kept w vs h r =
        let b = both_true (ltb (length σ.processes) processes_most) (leb (length σ.channels + made_by_body (body_of (unit_at m (proctype_of m w)))) channels_most) r in
        let e = X.begins w vs h σ t k.fits (ltb-true (length σ.processes) processes_most b.0) (leb-true (length σ.channels + made_by_body (body_of (unit_at m (proctype_of m w)))) channels_most b.1) in
        let f = begins-before (proctype_of m w) vs in
        record { fits = e.1; is = e.0; here = f.0; unit = f.1 ∙ k.unit }

  -- from the state that the numbers hold to any numbers that are the same
  kept_same : (σ : State) (a b : List ℤ) → a ≡ b → Kept σ b → Kept σ a
  kept_same σ a b e q = record { fits = q.fits; is = e ∙ q.is; here = q.here; unit = q.unit }

  some_number : (d : ℕ) (q : Meaning) → Item T m u d q → is_variable q ≡ true → ltb 0 (plain.size_meant m 0 q) ≡ true
  some_number d _ (of_local {x = x} h e g a b l) z = lt-ltb 0 x.size (omega arith)
  some_number d _ (of_global {x = x} h e g a b l) z = lt-ltb 0 x.size (omega arith)
  some_number d _ (of_message a b c) z = refl

  same_size : (d : ℕ) (q : Meaning) → Item T m u d q → is_variable q ≡ true → plain.size_meant m 0 q ≡ size_of (link_of T d)
  same_size d _ (of_local h e g a b l) z = inv l.size
  same_size d _ (of_global h e g a b l) z = inv l.size
  same_size d _ (of_message a b c) z = absurd (true_false (inv z))

  abbrev mean : Name → Meaning
  mean w = meant m (unit_at m u) w

  pub stages_agree : (σ : State) → Kept σ (encode m σ ++ t)
      → Agrees Kept (P u) at (plain_stage m p (unit_at m u) σ) σ (stage_in T (encode m σ ++ t) p decl head) (encode m σ ++ t)
  stages_agree σ k =
      record {
        together = k;
        number = λ w h. number_of σ k w h;
        some = λ w h. let q = X.stores w h in some_number (decl w) (mean w) q.0 q.1;
        size = λ w h. let q = X.stores w h in same_size (decl w) (mean w) q.0 q.1;
        element = λ w n h l. let q = X.stores w h in element_is σ k (decl w) (mean w) q.0 q.1 n (ltb-true n (plain.size_meant m 0 (mean w)) l);
        made = λ v. made_is σ k v;
        waiting = λ v h. waits_is σ k v h;
        constant = λ w i h. X.constants w i h;
        capacity = λ v h. capacity_is σ k v h;
        fields = λ v h. fields_are σ k v h;
        message = λ v w f h g l. message_is σ k v h w f g l;
        room = λ w n h. room_is σ k w n h;
        newest = ap pos (let z : length σ.processes ≡ min kept_most (length σ.processes) = (let h = k.fits.processes in omega arith) in z)
            ∙ ap kept (inv (processes_are m t σ k.fits.processes));
        store = λ {a} {b} r w n v h l.
            let q = X.stores w h in
            let e = store_is a (kept_same a (encode m a ++ t) b (inv r.is) r) (decl w) (mean w) q.0 q.1 n v (ltb-true n (plain.size_meant m 0 (mean w)) l) in
            kept_same (stored m p (mean w) n v a) (set b (slot_of (link_of T (decl w)) p n) (cast_of (type_of (link_of T (decl w))) v))
            (set (encode m a ++ t) (slot_of (link_of T (decl w)) p n) (cast_of (type_of (link_of T (decl w))) v))
            (ap (λ (x : List ℤ). set x (slot_of (link_of T (decl w)) p n) (cast_of (type_of (link_of T (decl w))) v)) r.is) e;
        put = λ v w vs h r q l. put-kept σ k v h w vs r q l;
        take = λ v w h g. take-kept σ k v h w g;
        begin = λ w vs h r. begin_kept σ k w vs h r;
        go = λ {a} {b} r n g.
            let e = go_kept a (kept_same a (encode m a ++ t) b (inv r.is) r) n g in
            kept_same (goes m p n a) (moved p n b) (moved p n (encode m a ++ t)) (ap (moved p n) r.is) e;
      }
