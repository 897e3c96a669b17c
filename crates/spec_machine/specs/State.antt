-- Document 01, "How it moves": "Processes start in text order (`init` included) at 0; a new one takes the next number. An ended one keeps its number for the whole run", "Channels count
-- from 1 as made, globals first". Plain states.
use Rattle.std.specs.Prelude.{ℕ, List, [], ℤ}

-- a channel that was made: by which declaration (the unit of the model, from 0, and which of its variables), and the messages that it holds, the oldest first
pub record Channel : Type 0 where
  pub unit : ℕ
  pub variable : ℕ
  pub held : List (List ℤ)

-- a process: its unit of the model, its place, and its variables, parameters first, with as many numbers as each has
pub record Process : Type 0 where
  pub unit : ℕ
  pub place : ℕ
  pub variables : List (List ℤ)

-- "Processes start .. at 0; a new one takes the next number", "Channels count from 1 as made"
pub record State : Type 0 where
  pub globals : List (List ℤ)
  pub processes : List Process
  pub channels : List Channel

abbrev pub no_channel : Channel
no_channel = record { unit = 0; variable = 0; held = [] }

abbrev pub no_process : Process
no_process = record { unit = 0; place = 0; variables = [] }
