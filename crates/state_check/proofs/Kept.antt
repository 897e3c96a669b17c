-- Numbers that stand for a state of the model (specs/Meaning.antt) are left as they are by shaping.
use Prim.Native.Nat.{ℕ, zero, suc, min, ◌+◌, ◌≤◌, ◌<◌}
use mathlib.Core.Path.{◌≡◌, refl, sym, ap, subst, ◌∙◌}
use mathlib.Core.Bool.{Bool, true}
use mathlib.Core.List.{List}
use mathlib.Core.Logic.{◌⊎◌, inl, inr}
use native.Mathlib.Omega.{arith}
use native.Mathlib.Decide.{ℕ_discrete}
use lib.ListN.{length, set, replicate, get_or-replicate, length-replicate, length-set}
use lib.Seq.{get_or-set_same, get_or-set_other}
use lib.IntN.{ℤ, pos}
use Rattle.base_ceilings.specs.Ceilings.{capacity_most, channels_most, processes_most, state_room}
use Rattle.base_bytes.specs.Choice.{pick}
use Rattle.table_layout.specs.Access.{link_of}
use Rattle.state_layout.specs.Layout.{kept, cell_of, count_of, process_at_lem, channel_at, field_at, processes_of, channels_of, unit_of, place_of, declared_of, waiting_of, kept_most}
use Rattle.state_layout.specs.Walks.{walk}
use Rattle.step_eval.specs.Variables.{size_of, slot_of}
use Rattle.state_start.specs.Starting.{unit_length, scanned}
use Rattle.step_ready.specs.Channels.{fields_of}
use Rattle.state_types.specs.Fits.{is_global, is_local}
use Rattle.state_used.specs.Shapes.{element_shaped, variable_shaped, global_shaped, local_shaped, locals_shaped, process_shaped, field_shaped, message_shaped, channel_shaped, shaped_on, shaped, processes_in, channels_in, messages_in}
use Rattle.state_check.specs.Standing.{items_last}
use Rattle.state_check.specs.Meaning.{Counted, Used, global_number, process_unit, process_place, local_number, channel_item_lem, channel_count, field_number, IsState}
use Rattle.state_check.proofs.Uses.{walk_keeps, walk_hits, global_keeps, local_keeps, process_keeps, message_keeps, channel_keeps}

pick-here : (Q : List ℤ → Type 0) (b : Bool) (x y : List ℤ) → b ≡ true → Q x → Q (pick b x y)
pick-here Q b x y e q = subst (λ b. Q (pick b x y)) (sym e) q

-- a count as it is written again
pub counted-kept : (s : List ℤ) (most i : ℕ) → most ≤ kept_most → Counted s most i → kept (min most (count_of s i)) ≡ cell_of s i
counted-kept s most i h q = let b = q.1 in ap pos (let e : min kept_most (min most (count_of s i)) ≡ count_of s i = omega arith in e) ∙ sym q.0

item-kept : (t : List ℕ) (s : List ℤ) (i : ℕ) → Counted s (items_last t) i → kept (count_of s i) ≡ cell_of s i
item-kept t s i q = let b = q.1 in ap pos (let e : min kept_most (count_of s i) ≡ count_of s i = omega arith in e) ∙ sym q.0

-- of the right length; and the number at i there already
abbrev Long : List ℤ → Type 0
Long x = length x ≡ state_room

abbrev There : List ℤ → ℕ → List ℤ → Type 0
There s i x = (length x ≡ state_room) × (cell_of x i ≡ cell_of s i)

module _ (s : List ℤ) where
  set_long : (a : ℕ) (v : ℤ) (x : List ℤ) → v ≡ cell_of s a → Long x → Long (set x a v)
  set_long a v x e h = length-set x a v ∙ h

  set_here : (i : ℕ) (v : ℤ) (x : List ℤ) → i < state_room → v ≡ cell_of s i → Long x → There s i (set x i v)
  set_here i v x g e h = (length-set x i v ∙ h, get_or-set_same x i v (pos 0) (omega arith) ∙ e)

  set_there : (i : ℕ) → i < state_room → (a : ℕ) (v : ℤ) (x : List ℤ) → v ≡ cell_of s a → There s i x → There s i (set x a v)
  set_there i g a v x e q = go (ℕ_discrete a i)
    where
      go : Dec (a ≡ i) → There s i (set x a v)
      go (yes z) = subst (λ b. There s i (set x b v)) (sym z) (set_here i v x g (e ∙ ap (cell_of s) z) q.0)
      go (no n) = (length-set x a v ∙ q.0, get_or-set_other x a i v (pos 0) (λ z. n (sym z)) ∙ q.1)

  variable_here : (l p k : ℕ) → k < size_of l → slot_of l p k < state_room → (x : List ℤ) → Long x → There s (slot_of l p k) (variable_shaped s l p x)
  unfolding variable_shaped element_shaped
  variable_here l p k h g x w =
      walk_hits (There s (slot_of l p k)) Long (element_shaped s l p) (size_of l) x k h (λ j b y q. set_there (slot_of l p k) g (slot_of l p j) _ y refl q)
      (λ j b y q. set_long (slot_of l p j) _ y refl q) (λ y q. set_here (slot_of l p k) _ y g refl q) w

  fields-here : (t : List ℕ) (c d m f : ℕ) → f < fields_of t d → field_at c m f < state_room → (x : List ℤ) → Long x → There s (field_at c m f) (message_shaped t s c d m x)
  unfolding message_shaped field_shaped
  fields-here t c d m f h g x w =
      walk_hits (There s (field_at c m f)) Long (field_shaped s c m) (fields_of t d) x f h (λ j b y q. set_there (field_at c m f) g (field_at c m j) _ y refl q)
      (λ j b y q. set_long (field_at c m j) _ y refl q) (λ y q. set_here (field_at c m f) _ y g refl q) w

module _ (t : List ℕ) (s : List ℤ) (st : IsState t s) where
  unit_is : (p : ℕ) → p < processes_of s → kept (unit_of s p) ≡ cell_of s (process_at_lem p)
  unit_is p h = item-kept t s (process_at_lem p) (st.heads p h).0

  place_is : (p : ℕ) → p < processes_of s → kept (place_of s p) ≡ cell_of s (process_at_lem p + 1)
  place_is p h = item-kept t s (process_at_lem p + 1) (st.heads p h).1

  item_is : (c : ℕ) → c < channels_of s → kept (declared_of s c) ≡ cell_of s (channel_at c)
  item_is c h = item-kept t s (channel_at c) (st.records c h).0

  count_is : (c : ℕ) → c < channels_of s → kept (messages_in s c) ≡ cell_of s (channel_at c + 1)
  count_is c h = counted-kept s capacity_most (channel_at c + 1) (omega arith) (st.records c h).1

  abbrev Same : ℕ → ℤ → Type 0
  Same a v = v ≡ cell_of s a

  -- each part keeps the length, and what is there
  long_global : (j : ℕ) → j < scanned t → (x : List ℤ) → Long x → Long (global_shaped t s j x)
  long_global = global_keeps t s Same (λ a u. refl) unit_is place_is item_is count_is Long (set_long s)

  long_process : (p : ℕ) → p < processes_of s → (x : List ℤ) → Long x → Long (process_shaped t s p x)
  long_process = process_keeps t s Same (λ a u. refl) unit_is place_is item_is count_is Long (set_long s)

  long_local : (p j : ℕ) → p < processes_of s → j < unit_length t (unit_of s p) → (x : List ℤ) → Long x → Long (local_shaped t s p (unit_of s p + j) x)
  long_local = local_keeps t s Same (λ a u. refl) unit_is place_is item_is count_is Long (set_long s)

  long_message : (c m : ℕ) → c < channels_of s → m < waiting_of s c → (x : List ℤ) → Long x → Long (message_shaped t s c (declared_of s c) m x)
  long_message = message_keeps t s Same (λ a u. refl) unit_is place_is item_is count_is Long (set_long s)

  long_channel : (c : ℕ) → c < channels_of s → (x : List ℤ) → Long x → Long (channel_shaped t s c x)
  long_channel = channel_keeps t s Same (λ a u. refl) unit_is place_is item_is count_is Long (set_long s)

  module _ (i : ℕ) (g : i < state_room) where
    there_global : (j : ℕ) → j < scanned t → (x : List ℤ) → There s i x → There s i (global_shaped t s j x)
    there_global = global_keeps t s Same (λ a u. refl) unit_is place_is item_is count_is (There s i) (set_there s i g)

    there_process : (p : ℕ) → p < processes_of s → (x : List ℤ) → There s i x → There s i (process_shaped t s p x)
    there_process = process_keeps t s Same (λ a u. refl) unit_is place_is item_is count_is (There s i) (set_there s i g)

    there_local : (p j : ℕ) → p < processes_of s → j < unit_length t (unit_of s p) → (x : List ℤ) → There s i x → There s i (local_shaped t s p (unit_of s p + j) x)
    there_local = local_keeps t s Same (λ a u. refl) unit_is place_is item_is count_is (There s i) (set_there s i g)

    there_message : (c m : ℕ) → c < channels_of s → m < waiting_of s c → (x : List ℤ) → There s i x → There s i (message_shaped t s c (declared_of s c) m x)
    there_message = message_keeps t s Same (λ a u. refl) unit_is place_is item_is count_is (There s i) (set_there s i g)

    there_channel : (c : ℕ) → c < channels_of s → (x : List ℤ) → There s i x → There s i (channel_shaped t s c x)
    there_channel = channel_keeps t s Same (λ a u. refl) unit_is place_is item_is count_is (There s i) (set_there s i g)

    -- the three walks, each with what one of its steps brings about
    channels_there : (x : List ℤ) → There s i x → There s i (walk (channel_shaped t s) 0 (channels_in s) x)
    channels_there x q = walk_keeps (There s i) (channel_shaped t s) (channels_in s) x (λ c h y w. there_channel c (omega arith) y w) q

    processes_there : (x : List ℤ) → There s i x → There s i (walk (process_shaped t s) 0 (processes_in s) x)
    processes_there x q = walk_keeps (There s i) (process_shaped t s) (processes_in s) x (λ p h y w. there_process p (omega arith) y w) q

    globals_here : (j : ℕ) → j < scanned t → ((y : List ℤ) → Long y → There s i (global_shaped t s j y)) → (x : List ℤ) → Long x → There s i (walk (global_shaped t s) 0 (scanned t) x)
    globals_here j h z x w = walk_hits (There s i) Long (global_shaped t s) (scanned t) x j h (λ k b y q. there_global k b y q) (λ k b y q. long_global k b y q) z w

    processes-here : (p : ℕ) → p < processes_of s → ((y : List ℤ) → Long y → There s i (process_shaped t s p y)) → (x : List ℤ) → Long x → There s i (walk (process_shaped t s) 0 (processes_in s) x)
    processes-here p h z x w =
        let b = st.processes.1 in
        walk_hits (There s i) Long (process_shaped t s) (processes_in s) x p (omega arith) (λ k b y q. there_process k (omega arith) y q) (λ k b y q. long_process k (omega arith) y q) z w

    channels-here : (c : ℕ) → c < channels_of s → ((y : List ℤ) → Long y → There s i (channel_shaped t s c y)) → (x : List ℤ) → Long x → There s i (walk (channel_shaped t s) 0 (channels_in s) x)
    channels-here c h z x w =
        let b = st.channels.1 in
        walk_hits (There s i) Long (channel_shaped t s) (channels_in s) x c (omega arith) (λ k b y q. there_channel k (omega arith) y q) (λ k b y q. long_channel k (omega arith) y q) z w

  global-here : (j k : ℕ) → is_global t j ≡ true → k < size_of (link_of t j) → slot_of (link_of t j) 0 k < state_room → (x : List ℤ) → Long x → There s (slot_of (link_of t j) 0 k) (global_shaped t s j x)
  unfolding global_shaped
  global-here j k e h g x w = pick-here (There s (slot_of (link_of t j) 0 k)) (is_global t j) _ x e (variable_here s (link_of t j) 0 k h g x w)

  local_here : (p j k : ℕ) → is_local t j ≡ true → k < size_of (link_of t j) → slot_of (link_of t j) p k < state_room → (x : List ℤ) → Long x → There s (slot_of (link_of t j) p k) (local_shaped t s p j x)
  unfolding local_shaped
  local_here p j k e h g x w = pick-here (There s (slot_of (link_of t j) p k)) (is_local t j) _ x e (variable_here s (link_of t j) p k h g x w)

  -- ---- processes
  module _ (p : ℕ) (h : p < processes_of s) where
    locals_there : (i : ℕ) → i < state_room → (x : List ℤ) → There s i x → There s i (locals_shaped t s p (unit_of s p) x)
    unfolding locals_shaped
    locals_there i g x q = walk_keeps (There s i) (λ k y. local_shaped t s p (unit_of s p + k) y) (unit_length t (unit_of s p)) x (λ k b y w. there_local i g p k h b y w) q

    locals_here : (i : ℕ) → i < state_room → (j : ℕ) → j < unit_length t (unit_of s p) → ((y : List ℤ) → Long y → There s i (local_shaped t s p (unit_of s p + j) y)) → (x : List ℤ) → Long x
        → There s i (locals_shaped t s p (unit_of s p) x)
    unfolding locals_shaped
    locals_here i g j b z x w =
        walk_hits (There s i) Long (λ k y. local_shaped t s p (unit_of s p + k) y) (unit_length t (unit_of s p)) x j b (λ k b y q. there_local i g p k h b y q) (λ k b y q. long_local p k h b y q) z w

    unit-here : process_at_lem p < state_room → (x : List ℤ) → Long x → There s (process_at_lem p) (process_shaped t s p x)
    unfolding process_shaped
    unit-here g x w = locals_there (process_at_lem p) g _ (set_there s (process_at_lem p) g (process_at_lem p + 1) _ (set x (process_at_lem p) (kept (unit_of s p))) (place_is p h) (set_here s (process_at_lem p) _ x g (unit_is p h) w))

    place_here : process_at_lem p + 1 < state_room → (x : List ℤ) → Long x → There s (process_at_lem p + 1) (process_shaped t s p x)
    unfolding process_shaped
    place_here g x w = locals_there (process_at_lem p + 1) g _ (set_here s (process_at_lem p + 1) _ (set x (process_at_lem p) (kept (unit_of s p))) g (place_is p h) (set_long s (process_at_lem p) _ x (unit_is p h) w))

    number-here : (j k : ℕ) → j < unit_length t (unit_of s p) → is_local t (unit_of s p + j) ≡ true → k < size_of (link_of t (unit_of s p + j)) → slot_of (link_of t (unit_of s p + j)) p k < state_room
        → (x : List ℤ) → Long x → There s (slot_of (link_of t (unit_of s p + j)) p k) (process_shaped t s p x)
    unfolding process_shaped
    number-here j k b e c g x w =
        locals_here (slot_of (link_of t (unit_of s p + j)) p k) g j b (λ y z. local_here p (unit_of s p + j) k e c g y z) _
        (set_long s (process_at_lem p + 1) _ (set x (process_at_lem p) (kept (unit_of s p))) (place_is p h) (set_long s (process_at_lem p) _ x (unit_is p h) w))

  -- ---- channels
  module _ (c : ℕ) (h : c < channels_of s) where
    messages_there : (i : ℕ) → i < state_room → (x : List ℤ) → There s i x → There s i (walk (message_shaped t s c (declared_of s c)) 0 (messages_in s c) x)
    messages_there i g x q = walk_keeps (There s i) (message_shaped t s c (declared_of s c)) (messages_in s c) x (λ m b y w. there_message i g c m h (omega arith) y w) q

    item-here : channel_at c < state_room → (x : List ℤ) → Long x → There s (channel_at c) (channel_shaped t s c x)
    unfolding channel_shaped
    item-here g x w = messages_there (channel_at c) g _ (set_there s (channel_at c) g (channel_at c + 1) _ (set x (channel_at c) (kept (declared_of s c))) (count_is c h) (set_here s (channel_at c) _ x g (item_is c h) w))

    count-here : channel_at c + 1 < state_room → (x : List ℤ) → Long x → There s (channel_at c + 1) (channel_shaped t s c x)
    unfolding channel_shaped
    count-here g x w = messages_there (channel_at c + 1) g _ (set_here s (channel_at c + 1) _ (set x (channel_at c) (kept (declared_of s c))) g (count_is c h) (set_long s (channel_at c) _ x (item_is c h) w))

    field-here : (m f : ℕ) → m < waiting_of s c → f < fields_of t (declared_of s c) → field_at c m f < state_room → (x : List ℤ) → Long x → There s (field_at c m f) (channel_shaped t s c x)
    unfolding channel_shaped
    field-here m f b e g x w =
        let r = (st.records c h).1.1 in
        walk_hits (There s (field_at c m f)) Long (message_shaped t s c (declared_of s c)) (messages_in s c) _ m (omega arith) (λ k b y q. there_message (field_at c m f) g c k h (omega arith) y q)
        (λ k b y q. long_message c k h (omega arith) y q) (λ y z. fields-here s t c (declared_of s c) m f e g y z)
        (set_long s (channel_at c + 1) _ (set x (channel_at c) (kept (declared_of s c))) (count_is c h) (set_long s (channel_at c) _ x (item_is c h) w))

  -- ---- the whole
  processes_is : kept (processes_in s) ≡ cell_of s 0
  processes_is = counted-kept s processes_most 0 (omega arith) st.processes

  channels_is : kept (channels_in s) ≡ cell_of s 1
  channels_is = counted-kept s channels_most 1 (omega arith) st.channels

  begun_long : (x : List ℤ) → Long x → Long (set (set x 0 (kept (processes_in s))) 1 (kept (channels_in s)))
  begun_long x w = set_long s 1 _ (set x 0 (kept (processes_in s))) channels_is (set_long s 0 _ x processes_is w)

  globals_long : (x : List ℤ) → Long x → Long (walk (global_shaped t s) 0 (scanned t) x)
  globals_long x w = walk_keeps Long (global_shaped t s) (scanned t) x (λ k b y q. long_global k b y q) w

  processes_long : (x : List ℤ) → Long x → Long (walk (process_shaped t s) 0 (processes_in s) x)
  processes_long x w = walk_keeps Long (process_shaped t s) (processes_in s) x (λ k b y q. long_process k (omega arith) y q) w

  used_there : (i : ℕ) → Used t s i → i < state_room → (x : List ℤ) → Long x → There s i (shaped_on t s x)
  unfolding shaped_on
  used_there _ (global_number j k a b c) g x w = channels_there _ g _ (processes_there _ g _ (globals_here _ g j a (λ y z. global-here j k b c g y z) _ (begun_long x w)))
  used_there _ (process_unit p a) g x w = channels_there _ g _ (processes-here _ g p a (λ y z. unit-here p a g y z) _ (globals_long _ (begun_long x w)))
  used_there _ (process_place p a) g x w = channels_there _ g _ (processes-here _ g p a (λ y z. place_here p a g y z) _ (globals_long _ (begun_long x w)))
  used_there _ (local_number p j k a b e d) g x w = channels_there _ g _ (processes-here _ g p a (λ y z. number-here p a j k b e d g y z) _ (globals_long _ (begun_long x w)))
  used_there _ (channel_item_lem c a) g x w = channels-here _ g c a (λ y z. item-here c a g y z) _ (processes_long _ (globals_long _ (begun_long x w)))
  used_there _ (channel_count c a) g x w = channels-here _ g c a (λ y z. count-here c a g y z) _ (processes_long _ (globals_long _ (begun_long x w)))
  used_there _ (field_number c m f a b d) g x w = channels-here _ g c a (λ y z. field-here c a m f b d g y z) _ (processes_long _ (globals_long _ (begun_long x w)))

  -- what is there on the two counts stays there
  stays : (i : ℕ) → i < state_room → (x : List ℤ) → There s i (set (set x 0 (kept (processes_in s))) 1 (kept (channels_in s))) → There s i (shaped_on t s x)
  unfolding shaped_on
  stays i g x q =
      channels_there i g _ (processes_there i g _ (walk_keeps (There s i) (global_shaped t s) (scanned t) _ (λ k b y w. there_global i g k b y w) q))

  zero_there : (i : ℕ) → 2 ≤ i → i < state_room → cell_of s i ≡ pos 0 → (x : List ℤ) → Long x → cell_of x i ≡ pos 0 → There s i (shaped_on t s x)
  zero_there i h g e x w z =
      stays i g x (begun_long x w, get_or-set_other (set x 0 (kept (processes_in s))) 1 i (kept (channels_in s)) (pos 0) (λ e. omega arith) ∙ get_or-set_other x 0 i (kept (processes_in s)) (pos 0) (λ e. omega arith) ∙ z ∙ sym e)

  there : (i : ℕ) → i < state_room → (x : List ℤ) → Long x → cell_of x i ≡ pos 0 → There s i (shaped_on t s x)
  there zero g x w z = stays 0 g x (set_there s 0 g 1 _ (set x 0 (kept (processes_in s))) channels_is (set_here s 0 _ x g processes_is w))
  there (suc zero) g x w z = stays 1 g x (set_here s 1 _ (set x 0 (kept (processes_in s))) g channels_is (set_long s 0 _ x processes_is w))
  there (suc (suc i)) g x w z = go (st.unused (suc (suc i)) (omega arith) g)
    where
      go : Used t s (suc (suc i)) ⊎ (cell_of s (suc (suc i)) ≡ pos 0) → There s (suc (suc i)) (shaped_on t s x)
      go (inl u) = used_there (suc (suc i)) u g x w
      go (inr e) = zero_there (suc (suc i)) (omega arith) g e x w z

  pub shaped-same : (i : ℕ) → i < state_room → cell_of (shaped t s) i ≡ cell_of s i
  unfolding shaped
  shaped-same i g = (there i g (replicate state_room (pos 0)) (length-replicate state_room (pos 0)) (get_or-replicate state_room i (pos 0) (pos 0) g)).1
