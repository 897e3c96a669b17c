-- Mechanism, held to the specification by `demand2` (crate `demands`).
-- Variables and channels as tables and a state have them: document 01, "How it moves", "index out of range, a channel number that was never made".
-- A declaration's link says of its variable, in one number, its type, whether it is a local, how many numbers it has and where they begin (crate `link_items`).
use Rattle.std.specs.Prelude.{ℕ, ◌+◌, ◌-◌, ◌/◌, ◌%◌, Bool, List, ℤ, pos, negsuc, eqb, ltb, leb, Result, Ok, Err}
use Rattle.base_bytes.specs.Choice.{pick, both}
use Rattle.table_layout.specs.Access.{link_of}
use Rattle.state_layout.specs.Layout.{global_at_lem, local_at, cell_of, channels_of, waiting_of}
use Rattle.base_bytes.specs.Numbers.{nat}
use Rattle.base_values.specs.declared.Fault.{Fault}
use Rattle.base_values.specs.declared.Fault.TheVariants.{Index, Channel}

-- the variable that the reference which ends with item j names
abbrev pub variable_of : List ℕ → ℕ → ℕ
variable_of t j = link_of t (link_of t j)

-- the number of its type, 38 bit to 45 int
abbrev pub type_of : ℕ → ℕ
type_of l = 38 + l % 8

abbrev pub size_of : ℕ → ℕ
size_of l = l / 16 % 64

-- where its number k stands in the state, for process p
unfoldable pub slot_of : ℕ → ℕ → ℕ → ℕ
slot_of l p k = pick (eqb (l / 8 % 2) 0) (global_at_lem (l / 1024 + k)) (local_at p (l / 1024 + k))

-- the element with an index that was worked out: "index out of range" is a fault
abbrev pub element_of : ℕ → ℕ → Result ℤ Fault → Result ℕ Fault
element_of l p (Ok (pos i)) = pick (ltb i (size_of l)) (Ok (slot_of l p i)) (Err Index)
element_of l p (Ok (negsuc i)) = Err Index
element_of l p (Err f) = Err f

abbrev pub load_of : List ℤ → Result ℕ Fault → Result ℤ Fault
load_of s (Ok i) = Ok (cell_of s i)
load_of s (Err f) = Err f

-- "a channel number that was never made": channels count from 1
abbrev pub made_of : List ℤ → ℕ → Bool
made_of s n = both (ltb 0 n) (leb n (channels_of s))

-- the record of the channel whose number was worked out
abbrev pub channel_of : List ℤ → Result ℤ Fault → Result ℕ Fault
channel_of s (Ok v) = pick (made_of s (nat v)) (Ok (nat v - 1)) (Err Channel)
channel_of s (Err f) = Err f

-- how many messages it holds
abbrev pub length_of : List ℤ → Result ℕ Fault → Result ℤ Fault
length_of s (Ok c) = Ok (pos (waiting_of s c))
length_of s (Err f) = Err f
