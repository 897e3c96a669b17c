-- Laws that the proofs of `state_check` cite: what its callees say, put together.
use Prim.Native.Nat.{ℕ, min, ◌+◌, ◌-◌, ◌≤◌, ◌<◌, ◌^◌}
use mathlib.Core.Path.{◌≡◌, ap, ◌∙◌}
use mathlib.Core.Bool.{Bool, true, false}
use mathlib.Core.List.{List}
use lib.ListN.{length, replicate}
use lib.IntN.{ℤ, pos}
use lib.Signed.{mag}
use lib.Dec.{eqb, ltb, leb}
use borrow.Author.Tests.{le-leb, lt-leb}
use mir.Syntax.{w32}
use mir.Val.{of_z}
use Rattle.base_ceilings.specs.Ceilings.{capacity_most, channels_most, items_most, processes_most, state_room}
use Rattle.base_codes.specs.Codes.{c_channel, c_init, c_proctype}
use Rattle.base_codes.specs.Sets.{is_part, is_alone, is_lead, within}
use Rattle.base_bytes.specs.Choice.{both, either}
use Rattle.link_places.specs.Places.{is_mark}
use Rattle.table_layout.specs.Access.{items_of, code_of, link_of}
use Rattle.base_values.specs.Operators.{same}
use Rattle.base_values.proofs.Machine.{same_bits}
use Rattle.state_layout.specs.Layout.{process_at_lem, channel_at, cell_of, unit_of, place_of, declared_of, waiting_of}
use Rattle.state_start.specs.Starting.{scanned}
use Rattle.step_ready.specs.Channels.{capacity_of}
use Rattle.state_types.specs.Fits.{every, counts_at, counts_from, global_fits, locals_fit, message_fits}
use Rattle.state_used.specs.Shapes.{shaped_on, shaped, processes_in, channels_in}
use Rattle.state_check.specs.Standing.{items_last, place_at, belongs, is_process, is_channel, process_sound, channel_sound, sound, same_at, same_numbers, is_state_of}

-- ---- places
module _ (t : List ℕ) (q : ℕ) {c : ℕ} (ec : c ≡ code_of t q) {a : Bool} (ea : a ≡ is_alone c) where
  pub place-alone : a ≡ true → true ≡ place_at t q
  unfolding place_at
  place-alone h = rw (← ec, ← ea, h)

  module _ (no : a ≡ false) {b : Bool} (eb : b ≡ is_part c) where
    pub place_none : b ≡ false → false ≡ place_at t q
    unfolding place_at
    place_none h = rw (← ec, ← ea, no, ← eb, h)

    pub place_phrase : b ≡ true → {k d l e : ℕ} {m n r : Bool} → k ≡ q - 1 → d ≡ code_of t k → m ≡ is_mark d → l ≡ link_of t q → e ≡ code_of t l → n ≡ is_lead e → r ≡ both m n → r ≡ place_at t q
    unfolding place_at
    place_phrase h ek ed em el ee en er =
        rw (← ec, ← ea, no, ← eb, h)
        (er ∙ (λ i. both ((em ∙ ap is_mark (ed ∙ ap (code_of t) ek)) i) ((en ∙ ap is_lead (ee ∙ ap (code_of t) el)) i)))

pub belongs_as : (t : List ℕ) (u q : ℕ) {e : ℕ} {a b r z : Bool} → e ≡ link_of t u → a ≡ both (ltb u q) (ltb q e) → b ≡ place_at t q → z ≡ both a b → r ≡ either (eqb q e) z → r ≡ belongs t u q
unfolding belongs
belongs_as t u q ee ea eb ez er = er ∙ (λ i. either (eqb q (ee i)) ((ez ∙ (λ j. both ((ea ∙ ap (λ e. both (ltb u q) (ltb q e)) ee) j) (eb j))) i))

-- ---- counts
pub counts_both : (s : List ℤ) (a b i : ℕ) {x y r : Bool} → x ≡ counts_at s a i → y ≡ counts_at s b (i + 1) → r ≡ both x y → r ≡ counts_from s a b i
unfolding counts_from
counts_both s a b i ex ey er = er ∙ (λ j. both (ex j) (ey j))

-- ---- processes and channels that are some of the model's
module _ (t : List ℕ) (s : List ℤ) where
  pub process_is : (p : ℕ) {u c q : ℕ} {w b l z r : Bool} → u ≡ unit_of s p → c ≡ code_of t u → w ≡ within c_proctype c_init c → q ≡ place_of s p → b ≡ belongs t u q → l ≡ locals_fit t s p u → z ≡ both b l
      → r ≡ both w z → r ≡ is_process t s p
  unfolding is_process
  process_is p eu ec ew eq eb el ez er =
      er ∙ (λ i. both ((ew ∙ ap (within c_proctype c_init) (ec ∙ ap (code_of t) eu)) i) ((ez ∙ (λ j. both ((eb ∙ (λ k. belongs t (eu k) (eq k))) j) ((el ∙ ap (locals_fit t s p) eu) j))) i))

  pub channel_is : (c : ℕ) {d k w m n : ℕ} {a b r : Bool} → d ≡ declared_of s c → w ≡ waiting_of s c → k ≡ code_of t d → m ≡ capacity_of t d → a ≡ both (eqb k c_channel) (leb w m) → n ≡ min capacity_most w
      → b ≡ every (message_fits t s c d) 0 n → r ≡ both a b → r ≡ is_channel t s c
  unfolding is_channel
  channel_is c ed ew ek em ea en eb er =
      er ∙ (λ i. both ((ea ∙ (λ j. both (eqb ((ek ∙ ap (code_of t) ed) j) c_channel) (leb (ew j) ((em ∙ ap (capacity_of t) ed) j)))) i) ((eb ∙ (λ j. every (message_fits t s c (ed j)) 0 ((en ∙ ap (min capacity_most) ew) j))) i))

  pub process-sound : (p : ℕ) {e i : ℕ} {a b r : Bool} → e ≡ items_last t → i ≡ process_at_lem p → a ≡ counts_from s e e i → b ≡ is_process t s p → r ≡ both a b → r ≡ process_sound t s p
  unfolding process_sound
  process-sound p ee ei ea eb er = er ∙ (λ j. both ((ea ∙ (λ k. counts_from s (ee k) (ee k) (ei k))) j) (eb j))

  pub channel-sound : (c : ℕ) {e i : ℕ} {a b r : Bool} → e ≡ items_last t → i ≡ channel_at c → a ≡ counts_from s e capacity_most i → b ≡ is_channel t s c → r ≡ both a b → r ≡ channel_sound t s c
  unfolding channel_sound
  channel-sound c ee ei ea eb er = er ∙ (λ j. both ((ea ∙ (λ k. counts_from s (ee k) capacity_most (ei k))) j) (eb j))

  pub sound_as : {i g n m : ℕ} {h f a b y z r : Bool} → h ≡ counts_from s processes_most channels_most 0 → i ≡ items_of t → g ≡ min items_most i → f ≡ every (global_fits t s) 0 g → n ≡ processes_in s
      → a ≡ every (process_sound t s) 0 n → m ≡ channels_in s → b ≡ every (channel_sound t s) 0 m → z ≡ both a b → y ≡ both f z → r ≡ both h y → r ≡ sound t s
  unfolding sound scanned
  sound_as eh ei eg ef en ea em eb ez ey er =
      er
      ∙ (λ k. both (eh k)
      ((ey
      ∙ (λ i. both ((ef ∙ ap (every (global_fits t s) 0) (eg ∙ ap (min items_most) ei)) i) ((ez ∙ (λ j. both ((ea ∙ ap (every (process_sound t s) 0) en) j) ((eb ∙ ap (every (channel_sound t s) 0) em) j))) i)))
      k))

-- ---- the whole
pub same-all : (x s : List ℤ) {b : Bool} → b ≡ every (same_at x s) 0 state_room → b ≡ same_numbers x s
unfolding same_numbers
same-all x s e = e

-- two numbers read through locals
module _ (x s : List ℤ) (i : ℕ) {v w : ℤ} (hv : mag v < 2 ^ 31) (ev : v ≡ cell_of x i) (hw : mag w < 2 ^ 31) (ew : w ≡ cell_of s i) where
  pub same_at_lem : eqb (of_z w32 v) (of_z w32 w) ≡ same_at x s i
  same_at_lem = same_bits v w (record { sfits = hv }) (record { sfits = hw }) ∙ (λ j. same (ev j) (ew j))

module _ (t : List ℕ) (s : List ℤ) where
  pub state-short : length s < state_room → false ≡ is_state_of t s
  unfolding is_state_of
  state-short h = rw (lt-leb state_room (length s) h)

  pub state_as : state_room ≤ length s → {x : List ℤ} {a b r : Bool} → x ≡ shaped_on t s (replicate state_room (pos 0)) → a ≡ sound t s → b ≡ same_numbers x s → r ≡ both a b → r ≡ is_state_of t s
  unfolding is_state_of shaped
  state_as h ex ea eb er = rw (le-leb state_room (length s) h) (er ∙ (λ i. both (ea i) ((eb ∙ ap (λ x. same_numbers x s) ex) i)))
