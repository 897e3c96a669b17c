-- Mechanism, held to the specification by `demand2` (crate `demands`).
-- Which numbers are a state of a model: document 01, "A state of the model (refusal 9): values in their types, places that belong to the process's proctype or its end,
-- messages in their field types, counts within ceilings, channels with the capacity and fields of some declaration, unused numbers 0".
-- Units, places and channels are some of the model's, values lie in their types (`state_types`), and nothing stands where nothing is in use (`state_used`).
-- `t` are tables, `s` the numbers.
use Rattle.std.specs.Prelude.{ℕ, ◌-◌, min, Bool, true, false, List, length, ℤ, eqb, ltb, leb}
use Rattle.base_ceilings.specs.Ceilings.{capacity_most, channels_most, processes_most, state_room}
use Rattle.base_codes.specs.Codes.{c_channel, c_init, c_proctype}
use Rattle.base_codes.specs.Sets.{is_part, is_alone, is_lead, within}
use Rattle.base_bytes.specs.Choice.{pick, both, either}
use Rattle.link_places.specs.Places.{is_mark}
use Rattle.table_layout.specs.Access.{items_of, code_of, link_of}
use Rattle.base_values.specs.Operators.{same}
use Rattle.state_layout.specs.Layout.{process_at_lem, channel_at, cell_of, unit_of, place_of, declared_of, waiting_of, kept_most}
use Rattle.step_ready.specs.Channels.{capacity_of}
use Rattle.state_start.specs.Starting.{scanned}
use Rattle.state_types.specs.Fits.{every, counts_from, global_fits, locals_fit, message_fits}
use Rattle.state_used.specs.Shapes.{processes_in, channels_in, messages_in, shaped}

-- the number of the model's last item, as far as 31 bits reach
abbrev pub items_last : List ℕ → ℕ
items_last t = min kept_most (items_of t - 1)

module _ (t : List ℕ) where
  -- a statement has its place at item q: `is_place` (crate `link_places`), with the mark of its phrase as the tables have it
  unfoldable pub place_at : ℕ → Bool
  place_at q = pick (is_alone (code_of t q)) true (pick (is_part (code_of t q)) (both (is_mark (code_of t (q - 1))) (is_lead (code_of t (link_of t q)))) false)

  -- "places that belong to the process's proctype or its end": the unit that item u begins ends with the item that u links to
  unfoldable pub belongs : ℕ → ℕ → Bool
  belongs u q = either (eqb q (link_of t u)) (both (both (ltb u q) (ltb q (link_of t u))) (place_at q))

  module _ (s : List ℤ) where
    -- what begins a unit with a body
    unfoldable pub is_process : ℕ → Bool
    is_process p = both (within c_proctype c_init (code_of t (unit_of s p))) (both (belongs (unit_of s p) (place_of s p)) (locals_fit t s p (unit_of s p)))

    -- "channels with the capacity and fields of some declaration": a `channel` item
    unfoldable pub is_channel : ℕ → Bool
    is_channel c =
        both (both (eqb (code_of t (declared_of s c)) c_channel) (leb (waiting_of s c) (capacity_of t (declared_of s c))))
        (every (message_fits t s c (declared_of s c)) 0 (messages_in s c))

    -- the two numbers before those of variables and messages
    unfoldable pub process_sound : ℕ → Bool
    process_sound p = both (counts_from s (items_last t) (items_last t) (process_at_lem p)) (is_process p)

    unfoldable pub channel_sound : ℕ → Bool
    channel_sound c = both (counts_from s (items_last t) capacity_most (channel_at c)) (is_channel c)

    unfoldable pub sound : Bool
    sound = both (counts_from s processes_most channels_most 0) (both (every (global_fits t s) 0 (scanned t)) (both (every process_sound 0 (processes_in s)) (every channel_sound 0 (channels_in s))))

abbrev pub same_at : List ℤ → List ℤ → ℕ → Bool
same_at x s i = same (cell_of x i) (cell_of s i)

-- the same numbers over the whole of a state
unfoldable pub same_numbers : List ℤ → List ℤ → Bool
same_numbers x s = every (same_at x s) 0 state_room

unfoldable pub is_state_of : List ℕ → List ℤ → Bool
is_state_of t s = both (leb state_room (length s)) (both (sound t s) (same_numbers (shaped t s) s))
