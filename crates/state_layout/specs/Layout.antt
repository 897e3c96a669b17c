-- Mechanism, held to the specification by `demand2` (crate `demands`).
-- The layout of a state, the one place that says so: document 01, "Ceilings", "a state as 2,048 signed ones .. A state is always written whole".
--   [0] how many processes there are; [1] how many channels were made
--   64 global numbers
--   16 processes, each with the item that begins its proctype, its place and 32 numbers
--   16 channels, each with the `channel` item that declares it, how many messages it holds, and 8 messages of 4 fields, the oldest first
--   the rest is 0
-- Processes count from 0. Channels count from 1 as made; the record of channel n is record n - 1.
use Rattle.std.specs.Prelude.{ℕ, ◌+◌, ◌*◌, min, List, ◌++◌, length, get_or, replicate, drop, ℤ, pos}
use Rattle.base_ceilings.specs.Ceilings.{capacity_most, fields_most, globals_most, numbers_most, processes_most, state_room}
use Rattle.base_bytes.specs.Numbers.{nat}

-- ## strides
abbrev pub process_size : ℕ
process_size = 2 + numbers_most

abbrev pub channel_size : ℕ
channel_size = 2 + capacity_most * fields_most

-- ## where each number stands
abbrev pub global_at_lem : ℕ → ℕ
global_at_lem k = 2 + k

abbrev pub process_at_lem : ℕ → ℕ
process_at_lem p = 2 + globals_most + process_size * p

abbrev pub local_at : ℕ → ℕ → ℕ
local_at p k = process_at_lem p + 2 + k

abbrev pub channel_at : ℕ → ℕ
channel_at c = process_at_lem processes_most + channel_size * c

abbrev pub field_at : ℕ → ℕ → ℕ → ℕ
field_at c m f = channel_at c + 2 + fields_most * m + f

-- ## what they say
module _ (s : List ℤ) where
  abbrev pub cell_of : ℕ → ℤ
  cell_of i = get_or s i (pos 0)

  abbrev pub count_of : ℕ → ℕ
  count_of i = nat (cell_of i)

  abbrev pub processes_of : ℕ
  processes_of = count_of 0

  abbrev pub channels_of : ℕ
  channels_of = count_of 1

  -- the item that begins the proctype of process p
  abbrev pub unit_of : ℕ → ℕ
  unit_of p = count_of (process_at_lem p)

  abbrev pub place_of : ℕ → ℕ
  place_of p = count_of (process_at_lem p + 1)

  -- the item that declares the channel of record c
  abbrev pub declared_of : ℕ → ℕ
  declared_of c = count_of (channel_at c)

  -- how many messages it holds
  abbrev pub waiting_of : ℕ → ℕ
  waiting_of c = count_of (channel_at c + 1)

  -- field f of its message m
  abbrev pub field_of : ℕ → ℕ → ℕ → ℤ
  field_of c m f = cell_of (field_at c m f)

-- a natural number as a state keeps it, as far as 31 bits reach, which nothing that is counted passes
abbrev pub kept_most : ℕ
kept_most = 2147483647

abbrev pub kept : ℕ → ℤ
kept n = pos (min kept_most n)

-- zeros over the whole of a state; what lies behind it stays
abbrev pub cleared : List ℤ → List ℤ
cleared s = replicate (min state_room (length s)) (pos 0) ++ drop (min state_room (length s)) s
