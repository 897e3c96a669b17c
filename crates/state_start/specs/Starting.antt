-- Mechanism, held to the specification by `demand2` (crate `demands`).
-- The initial state: document 01, "How it moves", "Variables start at 0 or their value; every element of an array gets it .. Channels count from 1 as made, globals
-- first", "Processes start in text order (`init` included) at 0; a new one takes the next number", and of parameters "those of an `active` process start at 0".
-- `t` are tables, `s` the state before, p the number of a process.
use Rattle.std.specs.Prelude.{ℕ, ◌+◌, ◌-◌, ◌/◌, ◌%◌, min, List, set, ℤ, eqb, ltb}
use Rattle.base_ceilings.specs.Ceilings.{items_most, processes_most}
use Rattle.base_codes.specs.Codes.{c_active, c_active_many, c_body, c_channel, c_declared, c_init}
use Rattle.base_bytes.specs.Choice.{pick}
use Rattle.table_layout.specs.Access.{items_of, code_of, link_of, number_of}
use Rattle.base_values.specs.Types.{cast_of}
use Rattle.state_layout.specs.Layout.{kept, cleared, process_at_lem, channel_at, processes_of, channels_of}
use Rattle.state_layout.specs.Walks.{walk}
use Rattle.step_eval.specs.Variables.{type_of, size_of, slot_of}
use Rattle.state_start.specs.Values.{value_at, value_of}

-- ## variables
-- every element of the variable l gets v
unfoldable pub filled : ℕ → ℕ → ℤ → List ℤ → List ℤ
filled l p v s = walk (λ k x. set x (slot_of l p k) v) 0 (size_of l) s

-- v stored in the first number of the variable l; "Storing keeps low bits"
abbrev pub stored : ℕ → ℕ → ℤ → List ℤ → List ℤ
stored l p v s = set s (slot_of l p 0) (cast_of (type_of l) v)

-- one channel more, declared by the `channel` item m: it takes the next number
unfoldable pub channel_made : ℕ → List ℤ → List ℤ
channel_made m s = set (set s (channel_at (channels_of s)) (kept m)) 1 (kept (channels_of s + 1))

module _ (t : List ℕ) where
  -- the variable l, whose value's item is k: a new channel, or its value in every element
  unfoldable pub variable_made : ℕ → ℕ → ℕ → List ℤ → List ℤ
  variable_made l p k s =
      pick (eqb (code_of t (k + 1)) c_channel) (stored l p (kept (channels_of s + 1)) (channel_made (k + 1) s))
      (filled l p (cast_of (type_of l) (value_of t k)) s)

  -- the variable that item d declares
  abbrev pub declared : ℕ → ℕ → List ℤ → List ℤ
  declared p d s = variable_made (link_of t d) p (value_at t d) s

  -- ## processes
  -- item j of a proctype, or of init: `body` has the first place, `declared` makes a variable
  unfoldable pub entered : ℕ → ℕ → List ℤ → List ℤ
  entered p j s = pick (eqb (code_of t j) c_body) (set s (process_at_lem p + 1) (kept (link_of t j))) (pick (eqb (code_of t j) c_declared) (declared p j s) s)

  -- how many items the unit that item u begins has from there on
  unfoldable pub unit_length : ℕ → ℕ
  unit_length u = min items_most (link_of t u - u)

  -- the next process, of the unit that item u begins, if one more fits
  unfoldable pub process_made : ℕ → List ℤ → List ℤ
  process_made u s =
      pick (ltb (processes_of s) processes_most)
      (walk (λ k x. entered (processes_of s) (u + k) x) 0 (unit_length u) (set (set s (process_at_lem (processes_of s)) (kept u)) 0 (kept (processes_of s + 1)))) s

  -- ## the whole
  -- item j, if it declares a global variable
  unfoldable pub global_made : ℕ → List ℤ → List ℤ
  global_made j s = pick (eqb (code_of t j) c_declared) (pick (eqb (link_of t j / 8 % 2) 0) (declared 0 j s) s) s

  -- how many processes the unit that item j begins starts: active 1, active-many the number two items before, init 1
  unfoldable pub starts_of : ℕ → ℕ
  starts_of j = pick (eqb (code_of t j) c_active) 1 (pick (eqb (code_of t j) c_active_many) (number_of t (j - 2)) (pick (eqb (code_of t j) c_init) 1 0))

  unfoldable pub unit_started : ℕ → List ℤ → List ℤ
  unit_started j s = walk (λ k x. process_made j x) 0 (min processes_most (starts_of j)) s

  -- as many items as a model has at most
  unfoldable pub scanned : ℕ
  scanned = min items_most (items_of t)

  -- globals first, then the processes in text order
  unfoldable pub initial_of : List ℤ → List ℤ
  initial_of s = walk unit_started 0 scanned (walk global_made 0 scanned (cleared s))
