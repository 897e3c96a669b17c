-- A STATE THAT FITS, IN NUMBERS: names, variables, messages and channels are shown from its numbers as from the plain state, for tables that chart the model and tell its items.
use Prim.Native.Nat.{ℕ, suc, ◌+◌, ◌-◌, ◌<◌, ◌≤◌}
use native.Mathlib.Omega.{arith}
use mathlib.Core.Path.{◌≡◌, refl, sym as inv, ap, ap₂, ◌∙◌, subst}
use mathlib.Core.Bool.{Bool, true, false}
use mathlib.Core.Logic.{◌⊎◌, inl, inr}
use mathlib.Core.List.{List, [], ◌∷◌, ◌++◌, map, append_assoc}
use lib.ListN.{length, get_or}
use lib.IntN.{ℤ, pos}
use Rattle.base_ceilings.specs.Ceilings.{items_most}
use Rattle.base_bytes.specs.Choice.{pick}
use Rattle.base_kinds.specs.Kinds.{bytes}
use Rattle.spec_text.specs.Formats.{digits_of}
use Rattle.table_layout.specs.Access.{items_of, link_of}
use Rattle.state_layout.specs.Layout.{cell_of, unit_of, declared_of, field_of}
use Rattle.step_eval.specs.Variables.{size_of, slot_of}
use Rattle.state_start.specs.Starting.{unit_length, scanned}
use Rattle.step_ready.specs.Channels.{capacity_of, fields_of}
use Rattle.state_types.specs.Fits.{is_global, is_local}
use Rattle.spec_grammar.specs.Tree.{Model}
use Rattle.parse_code.specs.Code.{code_part, code}
use Rattle.spec_machine.specs.Sizes.{sum, size_part}
use Rattle.spec_machine.specs.State.{Channel, Process, State, no_channel, no_process}
use Rattle.spec_machine.specs.Names.{Var, variables_of, globals_of, unit_at}
use Rattle.spec_machine.specs.Plain.{no_var, capacity_in, declared_by}
use Rattle.spec_machine.specs.Begins.{items_before}
use Rattle.spec_machine.specs.Places.{Bodied, Belongs}
use Rattle.spec_machine.specs.Fits.{Fits}
use Rattle.agree_encode.specs.Encode.{head_of, encode}
use Rattle.agree_encode.specs.Tabled.{offset_of}
use Rattle.agree_states.specs.Sites.{no_site, global_sites, sites_at}
use Rattle.agree_states.specs.Charted.{global_item, local_item, Charted}
use Rattle.agree_states.proofs.Sites.{var_of, unit_vars, sites_long, site_var, bodied_there}
use Rattle.agree_states.proofs.Initial.{global_vars}
use Rattle.agree_states.proofs.Slices.{offset_reach}
use Rattle.agree_states.proofs.Seen.{Tells}
use Rattle.agree_states.proofs.Held as held
use Rattle.agree_states.proofs.Held.{values-cell}
use Rattle.write_letters.specs.Tokens.{spelled}
use Rattle.spec_account.specs.States.{values_text, message_text, messages_text, variables_text, globals_text, locals_text, title_text, channels_text}
use Rattle.show_words.specs.Words.{title_in, message_in}
use Rattle.show_state.specs.Listing.{along, numbers_in, messages_in, variable_in, global_in, globals_in, local_in, locals_in, channel_in, channels_in}
use Rattle.agree_listing.proofs.Told.{Told, told-unit, unit_titled}
use Rattle.agree_listing.proofs.Sites.{Listed, listed-named, unit-listed, globals_listed}
use Rattle.agree_listing.proofs.Lists.{along_shift, along_sites, gathered-variables, numbers_are, fields_are, messages_are}

-- what is said of an item if a test holds
said : (b : Bool) (l : List ℕ) → b ≡ true → pick b l [] ≡ l
said b l e = ap (λ x. pick x l []) e

unsaid : (b : Bool) (l : List ℕ) → b ≡ false → pick b l [] ≡ []
unsaid b l e = ap (λ x. pick x l []) e

-- items are few
scanned-all : (T : List ℕ) → items_of T ≤ items_most → scanned T ≡ items_of T
unfolding scanned
scanned-all T h = omega arith

-- channels one behind the other
chain : (a b d e r : List ℕ) → (a ++ (b ++ (32 ∷ (d ++ (e ++ 10 ∷ []))))) ++ r ≡ a ++ (b ++ (32 ∷ (d ++ (e ++ 10 ∷ r))))
chain a b d e r =
    append_assoc a (b ++ (32 ∷ (d ++ (e ++ 10 ∷ [])))) r
    ∙ ap (λ (x : List ℕ). a ++ x)
    (append_assoc b (32 ∷ (d ++ (e ++ 10 ∷ []))) r ∙ ap (λ (x : List ℕ). b ++ (32 ∷ x)) (append_assoc d (e ++ 10 ∷ []) r ∙ ap (λ (x : List ℕ). d ++ x) (append_assoc e (10 ∷ []) r)))

channels_are : (m : Model) (σ : State) (f : ℕ → List ℕ) (k : ℕ) (cs : List Channel)
    → ((i : ℕ) → i < length cs
    → f (k + i) ≡ bytes "channel " ++ (digits_of (k + i + 1) ++ (32 ∷ (digits_of (capacity_in (declared_by m (get_or cs i no_channel))) ++ (messages_text (get_or cs i no_channel).held ++ 10 ∷ [])))))
    → along f k (length cs) ≡ channels_text m σ (k + 1) cs
unfolding along channels_text
channels_are m σ f k [] h = refl
channels_are m σ f k (c ∷ cs) h =
    let z : k ≡ k + 0 = omega arith in
    ap₂ (λ (x y : List ℕ). x ++ y)
    (ap f z ∙ h 0 (omega arith) ∙ ap (λ n. bytes "channel " ++ (digits_of (n + 1) ++ (32 ∷ (digits_of (capacity_in (declared_by m c)) ++ (messages_text c.held ++ 10 ∷ []))))) (inv z))
    (channels_are m σ f (k + 1) cs
    (λ i g. let y : k + 1 + i ≡ k + suc i = omega arith in
    ap f y ∙ h (suc i) (omega arith)
    ∙ ap (λ n. bytes "channel " ++ (digits_of (n + 1) ++ (32 ∷ (digits_of (capacity_in (declared_by m (get_or cs i no_channel))) ++ (messages_text (get_or cs i no_channel).held ++ 10 ∷ []))))) (inv y)))
    ∙ chain (bytes "channel ") (digits_of (k + 1)) (digits_of (capacity_in (declared_by m c))) (messages_text c.held) (channels_text m σ (k + 1 + 1) cs)

module _ (m : Model) (T : List ℕ) (X : Charted m T) (told : Told T 0 (code m)) where
  -- ---- the sites, in order
  global_long : length (global_sites m 0) ≡ length (globals_of m)
  global_long = sites_long (global_sites m 0) (globals_of m) (global_vars m 0)

  global_order : Listed T (global_sites m 0) 0 (0 + sum size_part m)
  global_order = globals_listed T m 0 told

  -- THE NAME OF A GLOBAL VARIABLE stands before its item
  pub global-name : (i : ℕ) → i < length (globals_of m) → spelled T (global_item m i - 1) ≡ (get_or (globals_of m) i no_var).name
  global-name i h =
      let g : i < length (global_sites m 0) = let e = global_long in omega arith in
      listed-named T (global_sites m 0) 0 (0 + sum size_part m) global_order i g ∙ ap (λ (x : Var). x.name) (site_var (global_sites m 0) (globals_of m) (global_vars m 0) i g)

  module _ (k : ℕ) (b : Bodied (unit_at m k)) where
    local_vars : map var_of (sites_at m k) ≡ variables_of (unit_at m k)
    local_vars = unit_vars (unit_at m k) (items_before m k)

    local_long : length (sites_at m k) ≡ length (variables_of (unit_at m k))
    local_long = sites_long (sites_at m k) (variables_of (unit_at m k)) local_vars

    local_order : Listed T (sites_at m k) (head_of m k) (items_before m k + size_part (unit_at m k))
    local_order =
        unit-listed T (unit_at m k) (items_before m k) b
        (subst (λ n. Told T n (code_part (unit_at m k))) (let z : 0 + items_before m k ≡ items_before m k = omega arith in z) (told-unit T m 0 told k (bodied_there m k b)))

    -- THE NAME OF A VARIABLE OF A UNIT
    pub local_name : (i : ℕ) → i < length (variables_of (unit_at m k)) → spelled T (local_item m k i - 1) ≡ (get_or (variables_of (unit_at m k)) i no_var).name
    local_name i h =
        let g : i < length (sites_at m k) = let e = local_long in omega arith in
        listed-named T (sites_at m k) (head_of m k) (items_before m k + size_part (unit_at m k)) local_order i g ∙ ap (λ (x : Var). x.name) (site_var (sites_at m k) (variables_of (unit_at m k)) local_vars i g)

  -- ---- a state that fits, and what lies behind its numbers
  module _ (σ : State) (F : Fits (Belongs m) m σ) (rest : List ℤ) where
    abbrev S : List ℤ
    S = encode m σ ++ rest

    -- ---- globals
    -- NUMBER k OF A GLOBAL VARIABLE, for any process
    pub global_number : (i k p : ℕ) → i < length (globals_of m) → k < (get_or (globals_of m) i no_var).size → cell_of S (slot_of (link_of T (global_item m i)) p k) ≡ get_or (get_or σ.globals i []) k (pos 0)
    global_number i k p h g =
        let l = (X.globals i h).2 in
        let r = offset_reach (globals_of m) i k h g in
        let w = X.globals_few in
        ap (cell_of S) (l.slot p k g) ∙ held.global-cell m T X σ F rest (offset_of (globals_of m) i + k) (omega arith) ∙ values-cell (globals_of m) σ.globals F.globals i k h g

    global-line : (i : ℕ) → i < length (global_sites m 0)
        → global_in T S (get_or (global_sites m 0) i no_site).item ≡ bytes "global " ++ ((get_or (global_sites m 0) i no_site).var.name ++ (values_text (get_or σ.globals i []) ++ 10 ∷ []))
    global-line i g =
        let e = global_long in
        let h : i < length (globals_of m) = omega arith in
        let j = global_item m i in
        let l = (X.globals i h).2 in
        let ls = l.size in
        let fs = F.globals.sized i h in
        let v = get_or σ.globals i [] in
        let n : numbers_in S (link_of T (global_item m i)) 0 ≡ get_or σ.globals i [] =
        numbers_are S (link_of T j) 0 0 (size_of (link_of T j)) v (omega arith)
        (λ k q. ap (λ z. cell_of S (slot_of (link_of T j) 0 z)) (let z : 0 + k ≡ k = omega arith in z) ∙ global_number i k 0 h (omega arith)) in
        said (is_global T (global_item m i)) (variable_in T S (bytes "global ") 0 (global_item m i)) (X.globals i h).1
        ∙ ap₂ (λ (x : List ℕ) (y : List ℤ). bytes "global " ++ (x ++ (values_text y ++ 10 ∷ []))) (listed-named T (global_sites m 0) 0 (0 + sum size_part m) global_order i g) n

    -- THE GLOBAL VARIABLES
    pub globals_shown : globals_in T (encode m σ ++ rest) ≡ globals_text m σ
    globals_shown =
        along_sites (global_in T S) T (global_sites m 0) 0 (items_of T) (0 + sum size_part m) global_order inside (λ j a b. among j (omega arith) (is_global T j) refl)
        ∙ gathered-variables (global_in T S) (bytes "global ") (global_sites m 0) σ.globals (F.globals.all ∙ inv global_long) global-line
        ∙ ap (λ (xs : List Var). variables_text (bytes "global ") xs σ.globals) (global_vars m 0)
      where
        all-scanned : scanned T ≡ items_of T
        all-scanned = scanned-all T X.few

        inside : (i : ℕ) → i < length (global_sites m 0) → (get_or (global_sites m 0) i no_site).item < 0 + items_of T
        inside i g = let e = global_long in let b = (X.globals i (omega arith)).0 in let w = all-scanned in omega arith

        among : (j : ℕ) → j < items_of T → (b : Bool) → is_global T j ≡ b → Tells (global_sites m 0) j ⊎ (global_in T S j ≡ [])
        among j h true e =
            let o = X.globals_only j (let w = all-scanned in omega arith) e in
            let oh = o.1.0 in
            let n = global_long in
            inl record { site = o.0; here = omega arith; is = o.1.1 }
        among j h false e = inr (unsaid (is_global T j) (variable_in T S (bytes "global ") 0 j) e)

    -- ---- the variables of process p
    module _ (p : ℕ) (h : p < length σ.processes) where
      abbrev me : Process
      me = get_or σ.processes p no_process

      abbrev mine : List Var
      mine = variables_of (unit_at m me.unit)

      own : Bodied (unit_at m (get_or σ.processes p no_process).unit)
      own = held.bodied m T X σ F rest p h

      -- THE NAME OF ITS UNIT
      pub title_shown : title_in T (unit_of (encode m σ ++ rest) p) ≡ title_text m σ p
      title_shown = ap (title_in T) (held.unit_is m T X σ F rest p h) ∙ unit_titled T m told me.unit own

      -- NUMBER k OF ITS VARIABLE i
      pub local_number : (i k : ℕ) → i < length (variables_of (unit_at m (get_or σ.processes p no_process).unit)) → k < (get_or (variables_of (unit_at m (get_or σ.processes p no_process).unit)) i no_var).size
          → cell_of S (slot_of (link_of T (local_item m (get_or σ.processes p no_process).unit i)) p k) ≡ get_or (get_or (get_or σ.processes p no_process).variables i []) k (pos 0)
      local_number i k g q =
          let l = (X.locals me.unit own i g).3 in
          let r = offset_reach mine i k g q in
          let w = X.locals_few me.unit own in
          ap (cell_of S) (l.slot p k q) ∙ held.local_cell m T X σ F rest p h (offset_of mine i + k) (omega arith) ∙ values-cell mine me.variables (F.each p h).values i k g q

      local_line : (i : ℕ) → i < length (sites_at m me.unit)
          → local_in T S p (get_or (sites_at m me.unit) i no_site).item ≡ bytes "local " ++ ((get_or (sites_at m me.unit) i no_site).var.name ++ (values_text (get_or me.variables i []) ++ 10 ∷ []))
      local_line i g =
          let e = local_long me.unit own in
          let a : i < length mine = omega arith in
          let j = local_item m me.unit i in
          let l = (X.locals me.unit own i a).3 in
          let ls = l.size in
          let fs = (F.each p h).values.sized i a in
          let n : numbers_in S (link_of T (local_item m me.unit i)) p ≡ get_or me.variables i [] =
          numbers_are S (link_of T j) p 0 (size_of (link_of T j)) (get_or me.variables i []) (omega arith)
          (λ k q. ap (λ z. cell_of S (slot_of (link_of T j) p z)) (let z : 0 + k ≡ k = omega arith in z) ∙ local_number i k a (omega arith)) in
          said (is_local T (local_item m me.unit i)) (variable_in T S (bytes "local ") p (local_item m me.unit i)) (X.locals me.unit own i a).2
          ∙ ap₂ (λ (x : List ℕ) (y : List ℤ). bytes "local " ++ (x ++ (values_text y ++ 10 ∷ [])))
          (listed-named T (sites_at m me.unit) (head_of m me.unit) (items_before m me.unit + size_part (unit_at m me.unit)) (local_order me.unit own) i g) n

      -- THE VARIABLES OF A PROCESS
      pub locals_shown : locals_in T (encode m σ ++ rest) p ≡ locals_text m σ p
      locals_shown =
          along_shift (local_in T S p) (unit_of S p) 0 (unit_length T (unit_of S p)) ∙ ap (λ j. along (local_in T S p) j (unit_length T (unit_of S p))) (let z : unit_of S p + 0 ≡ unit_of S p = omega arith in z)
          ∙ ap (λ u. along (local_in T S p) u (unit_length T u)) (held.unit_is m T X σ F rest p h)
          ∙ along_sites (local_in T S p) T (sites_at m me.unit) (head_of m me.unit) (unit_length T (head_of m me.unit)) (items_before m me.unit + size_part (unit_at m me.unit)) (local_order me.unit own) inside
          (λ j a b. among j a b (is_local T j) refl)
          ∙ gathered-variables (local_in T S p) (bytes "local ") (sites_at m me.unit) me.variables ((F.each p h).values.all ∙ inv (local_long me.unit own)) local_line
          ∙ ap (λ (xs : List Var). variables_text (bytes "local ") xs me.variables) (local_vars me.unit own)
        where
          inside : (i : ℕ) → i < length (sites_at m me.unit) → (get_or (sites_at m me.unit) i no_site).item < head_of m me.unit + unit_length T (head_of m me.unit)
          inside i g = (X.locals me.unit own i (let e = local_long me.unit own in omega arith)).1

          among : (j : ℕ) → head_of m me.unit ≤ j → j < head_of m me.unit + unit_length T (head_of m me.unit) → (b : Bool) → is_local T j ≡ b → Tells (sites_at m me.unit) j ⊎ (local_in T S p j ≡ [])
          among j a b true e =
              let z : head_of m me.unit + (j - head_of m me.unit) ≡ j = omega arith in
              let o = X.locals_only me.unit own (j - head_of m me.unit) (omega arith) (subst (λ n. is_local T n ≡ true) (inv z) e) in
              let oh = o.1.0 in
              let n = local_long me.unit own in
              inl record { site = o.0; here = omega arith; is = o.1.1 ∙ z }
          among j a b false e = inr (unsaid (is_local T j) (variable_in T S (bytes "local ") p j) e)

    -- ---- a channel, from 0
    module _ (c : ℕ) (h : c < length σ.channels) where
      abbrev it : Channel
      it = get_or σ.channels c no_channel

      -- how many fields its messages have
      fields_long : fields_of T (declared_of S c) ≡ length (held.H m T X σ F rest c h).types
      fields_long = ap (fields_of T) (held.declared_is m T X σ F rest c h) ∙ (held.chart m T X σ F rest c h).fields

      capacity_is : capacity_of T (declared_of S c) ≡ capacity_in (declared_by m (get_or σ.channels c no_channel))
      capacity_is = ap (capacity_of T) (held.declared_is m T X σ F rest c h) ∙ (held.chart m T X σ F rest c h).capacity ∙ inv (ap capacity_in (held.H m T X σ F rest c h).declared)

      -- MESSAGE k OF IT
      pub message-shown : (k : ℕ) → k < length (get_or σ.channels c no_channel).held → message_in (encode m σ ++ rest) c k (fields_of T (declared_of (encode m σ ++ rest) c)) ≡ message_text (get_or (get_or σ.channels c no_channel).held k [])
      message-shown k g =
          let H = held.H m T X σ F rest c h in
          let n = fields_long in
          let l = (H.messages k g).long in
          let few = held.held_few m T X σ F rest c h in
          let narrow = (held.chart m T X σ F rest c h).narrow in
          ap message_text
          (fields_are S c k 0 (fields_of T (declared_of S c)) (get_or it.held k []) (omega arith)
          (λ f q. ap (field_of S c k) (let z : 0 + f ≡ f = omega arith in z) ∙ held.field-cell m T X σ F rest c h k f (omega arith) (omega arith)))

      messages_shown : messages_in S c (fields_of T (declared_of S c)) ≡ messages_text (get_or σ.channels c no_channel).held
      messages_shown =
          ap (along (λ k. message_in S c k (fields_of T (declared_of S c))) 0) (held.waiting_is m T X σ F rest c h)
          ∙ messages_are (λ k. message_in S c k (fields_of T (declared_of S c))) 0 it.held
          (λ i g. ap (λ k. message_in S c k (fields_of T (declared_of S c))) (let z : 0 + i ≡ i = omega arith in z) ∙ message-shown i g)

      channel-line : channel_in T S c ≡ bytes "channel " ++ (digits_of (c + 1) ++ (32 ∷ (digits_of (capacity_in (declared_by m (get_or σ.channels c no_channel))) ++ (messages_text (get_or σ.channels c no_channel).held ++ 10 ∷ []))))
      channel-line = ap₂ (λ (n : ℕ) (l : List ℕ). bytes "channel " ++ (digits_of (c + 1) ++ (32 ∷ (digits_of n ++ (l ++ 10 ∷ []))))) capacity_is messages_shown

    -- THE CHANNELS, numbered from 1
    pub channels-shown : channels_in T (encode m σ ++ rest) ≡ channels_text m σ 1 σ.channels
    channels-shown =
        ap (along (channel_in T S) 0) (held.channels_are m T X σ F rest)
        ∙ channels_are m σ (channel_in T S) 0 σ.channels
        (λ i g. let z : 0 + i ≡ i = omega arith in
        ap (channel_in T S) z ∙ channel-line i g
        ∙ ap (λ n. bytes "channel " ++ (digits_of (n + 1) ++ (32 ∷ (digits_of (capacity_in (declared_by m (get_or σ.channels i no_channel))) ++ (messages_text (get_or σ.channels i no_channel).held ++ 10 ∷ []))))) (inv z))
