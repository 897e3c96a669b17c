-- What a name is used as: document 01, "A channel operand is a chan variable", rows 4 and 5 of "What is answered" ("of the wrong kind", "bad index use").
use Rattle.std.specs.Prelude.{Bool, true, false, not}

-- what a reference is for
pub data Role : Type 0 where
  operand channel target received : Role

-- an mtype name may be an operand, or stand in a receive; `_pid` may be an operand
abbrev pub for_constant : Role → Bool
for_constant operand = true
for_constant channel = false
for_constant target = false
for_constant received = true

abbrev pub for_pid : Role → Bool
for_pid operand = true
for_pid channel = false
for_pid target = false
for_pid received = false

-- a channel operand is a chan variable
abbrev pub for_chan : Role → Bool → Bool
for_chan operand chan = true
for_chan channel chan = chan
for_chan target chan = true
for_chan received chan = true

-- an array is used with an index, all else without one
abbrev pub alike : Bool → Bool → Bool
alike true b = b
alike false b = not b
