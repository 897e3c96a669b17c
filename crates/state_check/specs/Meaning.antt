-- Mechanism, of proofs alone: `is_state_stands`, `stands_is_state` (crate `state_check`) hold `is_state_of` to it; to the specification's states `demand2` (crate `demands`) holds `is_state_of` itself.
-- What a state of the model is, in the words of document 01: "A state of the model (refusal 9): values in their types, places that belong to the process's proctype or
-- its end, messages in their field types, counts within ceilings, channels with the capacity and fields of some declaration, unused numbers 0".
-- `is_state_of` lets through nothing else (`is_state_stands`, proofs/Meaning.antt) and all of it (`stands_is_state`, proofs/Exact.antt), whatever the tables are.
-- `t` are tables, `s` the numbers.
use Rattle.std.specs.Prelude.{ℕ, ◌+◌, ◌≤◌, ◌<◌, ◌≡◌, true, List, ◌⊎◌, length, ℤ, pos}
use Rattle.base_ceilings.specs.Ceilings.{capacity_most, channels_most, processes_most, state_room}
use Rattle.base_codes.specs.Codes.{c_channel, c_init, c_proctype}
use Rattle.table_layout.specs.Access.{code_of, link_of}
use Rattle.base_values.specs.Types.{cast_of}
use Rattle.state_layout.specs.Layout.{cell_of, count_of, process_at_lem, channel_at, field_at, processes_of, channels_of, unit_of, place_of, declared_of, waiting_of}
use Rattle.step_eval.specs.Variables.{type_of, size_of, slot_of}
use Rattle.state_start.specs.Starting.{unit_length, scanned}
use Rattle.step_ready.specs.Channels.{capacity_of, fields_of}
use Rattle.state_types.specs.Fits.{is_global, is_local}
use Rattle.step_messages.specs.Messages.{field_type}
use Rattle.state_check.specs.Standing.{items_last, place_at}

-- the number at i lies in the type ty: storing keeps it
abbrev pub InType : List ℤ → ℕ → ℕ → Type 0
InType s ty i = cast_of ty (cell_of s i) ≡ cell_of s i

-- the number at i counts or names something: from 0 to `most`
abbrev pub Counted : List ℤ → ℕ → ℕ → Type 0
Counted s most i = (cell_of s i ≡ pos (count_of s i)) × (count_of s i ≤ most)

-- the places of a state that are in use, behind its two counts
pub data Used (t : List ℕ) (s : List ℤ) : ℕ → Type 0 where
  global_number : (j k : ℕ) → j < scanned t → is_global t j ≡ true → k < size_of (link_of t j) → Used t s (slot_of (link_of t j) 0 k)
  process_unit : (p : ℕ) → p < processes_of s → Used t s (process_at_lem p)
  process_place : (p : ℕ) → p < processes_of s → Used t s (process_at_lem p + 1)
  local_number : (p j k : ℕ) → p < processes_of s → j < unit_length t (unit_of s p) → is_local t (unit_of s p + j) ≡ true → k < size_of (link_of t (unit_of s p + j))
      → Used t s (slot_of (link_of t (unit_of s p + j)) p k)
  channel_item_lem : (c : ℕ) → c < channels_of s → Used t s (channel_at c)
  channel_count : (c : ℕ) → c < channels_of s → Used t s (channel_at c + 1)
  field_number : (c m f : ℕ) → c < channels_of s → m < waiting_of s c → f < fields_of t (declared_of s c) → Used t s (field_at c m f)

pub record IsState (t : List ℕ) (s : List ℤ) : Type 0 where
  pub long : state_room ≤ length s
  -- "counts within ceilings"; units, places and channels are told by items of the model
  pub processes : Counted s processes_most 0
  pub channels : Counted s channels_most 1
  pub heads : (p : ℕ) → p < processes_of s → (Counted s (items_last t) (process_at_lem p)) × (Counted s (items_last t) (process_at_lem p + 1))
  pub records : (c : ℕ) → c < channels_of s → (Counted s (items_last t) (channel_at c)) × (Counted s capacity_most (channel_at c + 1))
  -- "values in their types"
  pub globals : (j k : ℕ) → j < scanned t → is_global t j ≡ true → k < size_of (link_of t j) → InType s (type_of (link_of t j)) (slot_of (link_of t j) 0 k)
  pub locals : (p j k : ℕ) → p < processes_of s → j < unit_length t (unit_of s p) → is_local t (unit_of s p + j) ≡ true → k < size_of (link_of t (unit_of s p + j))
      → InType s (type_of (link_of t (unit_of s p + j))) (slot_of (link_of t (unit_of s p + j)) p k)
  -- "places that belong to the process's proctype or its end"
  pub units : (p : ℕ) → p < processes_of s → (c_proctype ≤ code_of t (unit_of s p)) × (code_of t (unit_of s p) ≤ c_init)
  pub places : (p : ℕ) → p < processes_of s
      → (place_of s p ≡ link_of t (unit_of s p)) ⊎ ((unit_of s p < place_of s p) × (place_of s p < link_of t (unit_of s p)) × (place_at t (place_of s p) ≡ true))
  -- "channels with the capacity and fields of some declaration"
  pub declarations : (c : ℕ) → c < channels_of s → code_of t (declared_of s c) ≡ c_channel
  pub room : (c : ℕ) → c < channels_of s → waiting_of s c ≤ capacity_of t (declared_of s c)
  -- "messages in their field types"
  pub messages : (c m f : ℕ) → c < channels_of s → m < waiting_of s c → f < fields_of t (declared_of s c) → InType s (field_type t (declared_of s c) f) (field_at c m f)
  -- "unused numbers 0"
  pub unused : (i : ℕ) → 2 ≤ i → i < state_room → Used t s i ⊎ (cell_of s i ≡ pos 0)
