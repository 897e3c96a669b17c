-- WHAT IS SEEN AND CHANGED IN NUMBERS is what is seen and changed in the plain state that they hold: counts, units, places, variables, messages waiting. `t` is what lies behind the 2,048 numbers.
use Prim.Native.Nat.{ℕ, zero, suc, ◌+◌, ◌*◌, ◌<◌, ◌≤◌, min, ◌-◌}
use native.Mathlib.Omega.{arith}
use mathlib.Core.Path.{◌≡◌, refl, sym as inv, ap, ap₂, ◌∙◌}
use mathlib.Core.List.{List, [], ◌∷◌, ◌++◌}
use lib.ListN.{length, get_or, set, replicate, length-set}
use lib.IntN.{ℤ, pos}
use Rattle.base_ceilings.specs.Ceilings.{capacity_most, channels_most, globals_most, numbers_most, processes_most, state_room}
use Rattle.state_layout.specs.Layout.{kept, cell_of, process_at_lem, local_at, global_at_lem, channel_at, processes_of, channels_of, place_of, declared_of, waiting_of, channel_size, kept_most, process_size}
use Rattle.base_bytes.specs.Numbers.{nat}
use Rattle.step_statements.specs.Statements.{moved}
use Rattle.spec_grammar.specs.Tree.{Model}
use Rattle.spec_machine.specs.State.{Channel, Process, State, no_channel, no_process}
use Rattle.spec_machine.specs.Plain.{one_stored, with_globals, with_process, goes}
use Rattle.agree_encode.specs.Encode.{pad, rows, flat, head_of, channel_item, process_row, channel_row, encode}
use Rattle.agree_encode.proofs.Rows.{length-pad, get_pad, set-pad, off, length-rows, get_rows, set-rows, ahead, get_flat, set-flat, flat-reach, get_process, set-process, get_channel, get_global, set-global}

kept_is : (n : ℕ) → n ≤ kept_most → nat (kept n) ≡ n
kept_is n h = let z : min kept_most n ≡ n = omega arith in z

-- where the row of a process or a channel begins
pub at_process : {A : Type 0} (f : A → List ℤ) (p : ℕ) → off f process_size p ≡ process_size * p
at_process f zero = refl
at_process f (suc p) = let e = at_process f p in omega arith

pub at_channel : {A : Type 0} (f : A → List ℤ) (p : ℕ) → off f channel_size p ≡ channel_size * p
at_channel f zero = refl
at_channel f (suc p) = let e = at_channel f p in omega arith

module _ (m : Model) (t : List ℤ) (σ : State) where
  abbrev S : List ℤ
  S = encode m σ ++ t

  abbrev pub G : List ℤ
  G = pad globals_most (flat σ.globals)

  abbrev pub P : List ℤ
  P = rows (process_row m) process_size processes_most σ.processes

  abbrev pub C : List ℤ
  C = rows (channel_row m) channel_size channels_most σ.channels

  abbrev pub Z : List ℤ
  Z = replicate (state_room - channel_at channels_most) (pos 0)

  pub lg : length G ≡ globals_most
  lg = length-pad globals_most (flat σ.globals)

  pub lp : length P ≡ process_size * processes_most
  lp = length-rows (process_row m) process_size processes_most σ.processes

  pub lc : length C ≡ channel_size * channels_most
  lc = length-rows (channel_row m) channel_size channels_most σ.channels

  -- ---- counts
  pub processes_are : length σ.processes ≤ processes_most → processes_of S ≡ length σ.processes
  unfolding encode
  processes_are h = kept_is (length σ.processes) (omega arith)

  pub channels_are : length σ.channels ≤ channels_most → channels_of S ≡ length σ.channels
  unfolding encode
  channels_are h = kept_is (length σ.channels) (omega arith)

  -- ---- processes
  module _ (p : ℕ) (here : p < length σ.processes) (few : length σ.processes ≤ processes_most) where
    abbrev me : Process
    me = get_or σ.processes p no_process

    process-cell : (k : ℕ) → k < process_size → cell_of S (process_at_lem p + k) ≡ get_or (process_row m me) k (pos 0)
    unfolding encode
    process-cell k h =
        let e = at_process (process_row m) p in
        ap (λ i. get_or S i (pos 0)) (let z : process_at_lem p + k ≡ process_at_lem 0 + (off (process_row m) process_size p + k) = omega arith in z)
        ∙ get_process (kept (length σ.processes)) (kept (length σ.channels)) G P C Z t lg lp lc (off (process_row m) process_size p + k) (omega arith)
        ∙ get_rows (process_row m) process_size processes_most σ.processes no_process p k here (omega arith) h

    pub place_is : me.place ≤ kept_most → place_of S p ≡ me.place
    place_is h = ap nat (process-cell 1 (omega arith)) ∙ kept_is me.place h

    -- number k of variable i
    pub local_is : (i k : ℕ) → i < length me.variables → k < length (get_or me.variables i []) → length (flat me.variables) ≤ numbers_most
        → cell_of S (local_at p (ahead me.variables i + k)) ≡ get_or (get_or me.variables i []) k (pos 0)
    local_is i k h g few =
        let r = flat-reach me.variables i k h g in
        ap (cell_of S) (let z : local_at p (ahead me.variables i + k) ≡ process_at_lem p + (2 + (ahead me.variables i + k)) = omega arith in z)
        ∙ process-cell (2 + (ahead me.variables i + k)) (omega arith)
        ∙ ap (λ j. get_or (process_row m me) j (pos 0)) (let z : 2 + (ahead me.variables i + k) ≡ suc (suc (ahead me.variables i + k)) = omega arith in z)
        ∙ get_flat me.variables i k h g

    -- a number of its row is changed
    process-set : (k : ℕ) (v : ℤ) (y : Process) → k < process_size → set (pad process_size (process_row m me)) k v ≡ pad process_size (process_row m y) → set S (process_at_lem p + k) v ≡ encode m (with_process p y σ) ++ t
    unfolding encode
    process-set k v y h e =
        let o = at_process (process_row m) p in
        ap (λ i. set S i v) (let z : process_at_lem p + k ≡ process_at_lem 0 + (off (process_row m) process_size p + k) = omega arith in z)
        ∙ set-process (kept (length σ.processes)) (kept (length σ.channels)) G P C Z t lg lp lc (off (process_row m) process_size p + k) v (omega arith)
        ∙ ap₂ (λ (n : ℕ) (l : List ℤ). (kept n ∷ kept (length σ.channels) ∷ G ++ (l ++ (C ++ Z))) ++ t) (inv (length-set σ.processes p y))
        (set-rows (process_row m) process_size processes_most σ.processes no_process p k v y here (omega arith) h e)

    -- GO
    pub go_is : (n : ℕ) → moved p n S ≡ encode m (goes m p n σ) ++ t
    go_is n =
        process-set 1 (kept n) record { unit = me.unit; place = n; variables = me.variables } (omega arith)
        (set-pad process_size (process_row m me) 1 (kept n) (let z : 1 < suc (suc (length (flat me.variables))) = omega arith in z))

    -- STORE in a variable of its own
    pub local_stored : (i k : ℕ) (v : ℤ) → i < length me.variables → k < length (get_or me.variables i []) → length (flat me.variables) ≤ numbers_most
        → set S (local_at p (ahead me.variables i + k)) v
        ≡ encode m (with_process p record { unit = me.unit; place = me.place; variables = one_stored me.variables i k v } σ) ++ t
    local_stored i k v h g few =
        let r = flat-reach me.variables i k h g in
        ap (λ j. set S j v) (let z : local_at p (ahead me.variables i + k) ≡ process_at_lem p + (2 + (ahead me.variables i + k)) = omega arith in z)
        ∙ process-set (2 + (ahead me.variables i + k)) v record { unit = me.unit; place = me.place; variables = one_stored me.variables i k v } (omega arith)
        (set-pad process_size (process_row m me) (2 + (ahead me.variables i + k)) v (omega arith)
        ∙ ap (λ j. pad process_size (set (process_row m me) j v)) (let z : 2 + (ahead me.variables i + k) ≡ suc (suc (ahead me.variables i + k)) = omega arith in z)
        ∙ ap (λ (l : List ℤ). pad process_size (kept (head_of m me.unit) ∷ kept me.place ∷ l)) (set-flat me.variables i k v h g))

  -- ---- global variables
  pub global_is : (i k : ℕ) → i < length σ.globals → k < length (get_or σ.globals i []) → length (flat σ.globals) ≤ globals_most
      → cell_of S (global_at_lem (ahead σ.globals i + k)) ≡ get_or (get_or σ.globals i []) k (pos 0)
  unfolding encode
  global_is i k h g few =
      let r = flat-reach σ.globals i k h g in
      get_global (kept (length σ.processes)) (kept (length σ.channels)) G P C Z t lg lp lc (ahead σ.globals i + k) (omega arith)
      ∙ get_pad globals_most (flat σ.globals) (ahead σ.globals i + k) (omega arith) ∙ get_flat σ.globals i k h g

  pub global-stored : (i k : ℕ) (v : ℤ) → i < length σ.globals → k < length (get_or σ.globals i []) → length (flat σ.globals) ≤ globals_most
      → set S (global_at_lem (ahead σ.globals i + k)) v ≡ encode m (with_globals (one_stored σ.globals i k v) σ) ++ t
  unfolding encode
  global-stored i k v h g few =
      let r = flat-reach σ.globals i k h g in
      set-global (kept (length σ.processes)) (kept (length σ.channels)) G P C Z t lg lp lc (ahead σ.globals i + k) v (omega arith)
      ∙ ap (λ (l : List ℤ). (kept (length σ.processes) ∷ kept (length σ.channels) ∷ l ++ (P ++ (C ++ Z))) ++ t)
      (set-pad globals_most (flat σ.globals) (ahead σ.globals i + k) v r ∙ ap (pad globals_most) (set-flat σ.globals i k v h g))

  -- ---- channels
  module _ (c : ℕ) (here : c < length σ.channels) (few : length σ.channels ≤ channels_most) where
    abbrev ch : Channel
    ch = get_or σ.channels c no_channel

    pub channel-cell : (k : ℕ) → k < channel_size → cell_of S (channel_at c + k) ≡ get_or (channel_row m ch) k (pos 0)
    unfolding encode
    channel-cell k h =
        let e = at_channel (channel_row m) c in
        ap (λ i. get_or S i (pos 0)) (let z : channel_at c + k ≡ channel_at 0 + (off (channel_row m) channel_size c + k) = omega arith in z)
        ∙ get_channel (kept (length σ.processes)) (kept (length σ.channels)) G P C Z t lg lp lc (off (channel_row m) channel_size c + k) (omega arith)
        ∙ get_rows (channel_row m) channel_size channels_most σ.channels no_channel c k here (omega arith) h

    pub declared_is : channel_item m ch ≤ kept_most → declared_of S c ≡ channel_item m ch
    declared_is h = ap (λ i. nat (cell_of S i)) (let z : channel_at c ≡ channel_at c + 0 = omega arith in z) ∙ ap nat (channel-cell 0 (omega arith)) ∙ kept_is (channel_item m ch) h

    -- WAITING
    pub waiting_is : length ch.held ≤ capacity_most → waiting_of S c ≡ length ch.held
    waiting_is h = ap nat (channel-cell 1 (omega arith)) ∙ kept_is (length ch.held) (omega arith)
