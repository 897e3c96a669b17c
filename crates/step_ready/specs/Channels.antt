-- Mechanism, held to the specification by `demand2` (crate `demands`).
-- Channels as their declarations make them, and the messages that a statement means: document 01, "How it moves", "a channel number that was never made, wrong field
-- count at run time", "a channel's number and field count are tested first". `t` are tables, `s` a state, p the number of the process.
use Rattle.std.specs.Prelude.{ℕ, zero, suc, ◌+◌, ◌-◌, min, Bool, true, false, List, ℤ, pos, eqb, Result, Ok, Err}
use Rattle.base_ceilings.specs.Ceilings.{fields_most}
use Rattle.base_codes.specs.Codes.{c_end, c_field, c_into, c_message}
use Rattle.base_bytes.specs.Choice.{pick}
use Rattle.table_layout.specs.Access.{code_of, link_of, number_of}
use Rattle.state_layout.specs.Layout.{declared_of, waiting_of, field_of}
use Rattle.base_values.specs.Operators.{is_true, equal_by}
use Rattle.base_values.specs.declared.Fault.{Fault}
use Rattle.base_values.specs.declared.Fault.TheVariants.{Fields}
use Rattle.step_eval.specs.Variables.{load_of, channel_of}
use Rattle.step_eval.specs.Expressions.{holds, eval_of, locate_of}
use Rattle.step_ready.specs.declared.Found.{Found}
use Rattle.step_ready.specs.declared.Found.TheVariants.{Message, Nothing, Spoilt}

module _ (t : List ℕ) where
  -- a `channel` item d stands behind its capacity, and before its types, each followed by `field`
  abbrev pub capacity_of : ℕ → ℕ
  capacity_of d = number_of t (d - 1)

  -- "message fields 1 to 4"
  unfoldable pub fields_of : ℕ → ℕ
  fields_of d =
      pick (eqb (code_of t (d + 2)) c_field)
      (pick (eqb (code_of t (d + 4)) c_field) (pick (eqb (code_of t (d + 6)) c_field) (pick (eqb (code_of t (d + 8)) c_field) 4 3) 2) 1) 0

  -- ## arguments: the first item of one links to its mark, behind which the next begins; `end` stands behind the last
  unfoldable pub arguments_from : ℕ → ℕ → ℕ
  arguments_from zero a = 0
  arguments_from (suc n) a = pick (eqb (code_of t a) c_end) 0 (1 + arguments_from n (link_of t a + 1))

  -- how many there are from item a on; 5 is too many for a message
  abbrev pub arguments_of : ℕ → ℕ
  arguments_of a = arguments_from (fields_most + 1) a

  -- a received argument with the mark m is compared, not stored: not `into`, or the mtype name that it names
  unfoldable pub compared_at : ℕ → Bool
  compared_at m = pick (eqb (code_of t m) c_into) (eqb (code_of t (link_of t (m - 1))) c_message) true

-- ## what is found: by the test of message w, where `rest` is what is found behind it
abbrev pub found_by : ℕ → Result ℤ Fault → Found → Found
found_by w (Ok v) rest = pick (is_true v) (Message w) rest
found_by w (Err f) rest = Spoilt f

-- a step is taken, if only to its fault
abbrev pub finds : Found → Bool
finds (Message w) = true
finds Nothing = false
finds (Spoilt f) = true

-- a receive tries the oldest message alone, where there is one
abbrev pub tried_of : List ℤ → ℕ → ℕ
tried_of s c = min 1 (waiting_of s c)

module _ (t : List ℕ) (s : List ℤ) (p : ℕ) where
  -- the channel that the reference from `from` to before `to` means
  abbrev pub reached_of : ℕ → ℕ → Result ℕ Fault
  reached_of from to = channel_of s (load_of s (locate_of t s p from to))

  -- does the argument from a to before its mark m agree with field f of message w in channel c?
  unfoldable pub agrees_of : ℕ → ℕ → ℕ → ℕ → ℕ → Result ℤ Fault
  agrees_of c w a m f = pick (compared_at t m) (equal_by (eval_of t s p a m) (field_of s c w f)) (Ok (pos 1))

  -- do the arguments from a on, from field f? "each constant and `eval` equals its field, tried left to right to the first difference"
  unfoldable pub matches_from : ℕ → ℕ → ℕ → ℕ → ℕ → Result ℤ Fault
  matches_from zero c w a f = Ok (pos 1)
  matches_from (suc n) c w a f =
      pick (eqb (code_of t a) c_end) (Ok (pos 1))
      (pick (holds (agrees_of c w a (link_of t a) f)) (matches_from n c w (link_of t a + 1) (f + 1)) (agrees_of c w a (link_of t a) f))

  abbrev pub matches_of : ℕ → ℕ → ℕ → Result ℤ Fault
  matches_of c w a = matches_from fields_most c w a 0

  -- the first of n messages in channel c, from message w on, with which the arguments from a on agree
  unfoldable pub found_from : ℕ → ℕ → ℕ → ℕ → Found
  found_from zero c w a = Nothing
  found_from (suc n) c w a = found_by w (matches_of c w a) (found_from n c (w + 1) a)

  -- what a receive with these arguments finds
  abbrev pub found_of : ℕ → ℕ → Found
  found_of c a = found_from (tried_of s c) c 0 a

-- the channel, if it has n fields
abbrev pub addressed_of : List ℕ → List ℤ → Result ℕ Fault → ℕ → Result ℕ Fault
addressed_of t s (Ok c) n = pick (eqb (fields_of t (declared_of s c)) n) (Ok c) (Err Fields)
addressed_of t s (Err f) n = Err f
