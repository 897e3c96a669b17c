-- Document 01, "How it moves": "Variables start at 0 or their value; every element of an array gets it. mtype names count from 1 in list order (H). Channels count from 1 as made, globals
-- first", "Processes start in text order (`init` included) at 0; a new one takes the next number"; "The edition we read": parameters of an `active` process, "those of an `active` process
-- start at 0 (002). `active [0]` starts none". Processes that begin, and the initial state.
use Rattle.std.specs.Prelude.{ℕ, zero, suc, ◌+◌, List, [], ◌∷◌, ◌++◌, length, replicate, ℤ, pos}
use Rattle.base_values.specs.Types.{cast_of}
use Rattle.base_values.specs.Operators.{unary_of}
use Rattle.spec_grammar.specs.Tree.{end, Value, unset, set_number, set_minus, set_true, set_false, set_name, set_channel, Body, body, Part, mtypes, global, process, init, Model}
use Rattle.spec_machine.specs.Sizes.{sum, size_group, size_activity, size_part}
use Rattle.spec_rules.specs.Ceilings.{started_by}
use Rattle.spec_machine.specs.Program.{enter, start_in, end_in}
use Rattle.spec_machine.specs.State.{Channel, State}
use Rattle.spec_machine.specs.Names.{Var, parameters_of, locals_of, global_in, messages_of, unit_at, message_from, number_of}

-- ## where the numbers of a unit begin
unfoldable pub items_before : Model → ℕ → ℕ
items_before [] k = 0
items_before (u ∷ m) zero = 0
items_before (u ∷ m) (suc k) = size_part u + items_before m k

-- where a unit's body begins, if the unit's numbers begin with i
abbrev pub body_in : Part → ℕ → ℕ
body_in (mtypes ws) i = i
body_in (global d) i = i
body_in (process a w gs b) i = i + size_activity a + sum size_group gs
body_in (init b) i = i + 1

abbrev pub body_of : Part → Body
body_of (mtypes ws) = body [] end
body_of (global d) = body [] end
body_of (process a w gs b) = b
body_of (init b) = b

abbrev pub first_in : Body → ℕ → ℕ
first_in (body ds q) k = enter q (start_in (body ds q) k) (end_in (body ds q) k)

-- ## variables
-- what is made: the numbers of variables, and all channels so far
pub record Made : Type 0 where
  pub values : List (List ℤ)
  pub channels : List Channel

module _ (m : Model) where
  -- the value of a declaration that makes no channel
  abbrev pub value_of : Value → ℤ
  value_of unset = pos 0
  value_of (set_number n) = pos n
  value_of (set_minus n) = unary_of 15 (pos n)
  value_of set_true = pos 1
  value_of set_false = pos 0
  value_of (set_name w) = pos (number_of (message_from 1 (messages_of m) w))
  value_of (set_channel n ks) = pos 0

  abbrev pub plainly : Var → List (List ℤ) → List Channel → Made
  plainly x vs cs = record { values = vs ++ replicate x.size (cast_of x.type (value_of x.value)) ∷ []; channels = cs }

  -- variable i of unit u, behind what was made before
  abbrev pub makes : ℕ → ℕ → Var → Value → List (List ℤ) → List Channel → Made
  makes u i x unset vs cs = plainly x vs cs
  makes u i x (set_number n) vs cs = plainly x vs cs
  makes u i x (set_minus n) vs cs = plainly x vs cs
  makes u i x set_true vs cs = plainly x vs cs
  makes u i x set_false vs cs = plainly x vs cs
  makes u i x (set_name w) vs cs = plainly x vs cs
  makes u i x (set_channel n ks) vs cs =
      record { values = vs ++ (cast_of x.type (pos (length cs + 1)) ∷ []) ∷ []; channels = cs ++ record { unit = u; variable = i; held = [] } ∷ [] }

  unfoldable pub makes_all : ℕ → ℕ → List Var → Made → Made
  makes_all u i [] y = y
  makes_all u i (x ∷ xs) y = makes_all u (suc i) xs (makes u i x x.value y.values y.channels)

  -- ## processes
  -- parameters get the arguments by their positions, 0 where there is none
  unfoldable pub given : List Var → List ℤ → List (List ℤ)
  given [] vs = []
  given (x ∷ xs) [] = (cast_of x.type (pos 0) ∷ []) ∷ given xs []
  given (x ∷ xs) (v ∷ vs) = (cast_of x.type v ∷ []) ∷ given xs vs

  abbrev pub begin_by : ℕ → Part → State → Made → State
  begin_by k u σ y =
      record {
        globals = σ.globals;
        processes = σ.processes ++ record { unit = k; place = first_in (body_of u) (body_in u (items_before m k)); variables = y.values } ∷ [];
        channels = y.channels;
      }

  -- one more process of unit k, with these arguments
  unfoldable pub begins : ℕ → List ℤ → State → State
  begins k vs σ =
      begin_by k (unit_at m k) σ
      (makes_all k (length (parameters_of (unit_at m k))) (locals_of (body_of (unit_at m k))) record { values = given (parameters_of (unit_at m k)) vs; channels = σ.channels })

  unfoldable pub begins_times : ℕ → ℕ → State → State
  begins_times k zero σ = σ
  begins_times k (suc n) σ = begins_times k n (begins k [] σ)

  -- ## the whole
  -- the globals of the units from k on
  unfoldable pub globals_from : ℕ → Model → Made → Made
  globals_from k [] y = y
  globals_from k (u ∷ us) y = globals_from (suc k) us (makes_all k 0 (global_in u) y)

  abbrev pub starts_of : Part → ℕ
  starts_of (mtypes ws) = 0
  starts_of (global d) = 0
  starts_of (process a w gs b) = started_by a
  starts_of (init b) = 1

  unfoldable pub starts_from : ℕ → Model → State → State
  starts_from k [] σ = σ
  starts_from k (u ∷ us) σ = starts_from (suc k) us (begins_times k (starts_of u) σ)

  abbrev pub bare : Made → State
  bare y = record { globals = y.values; processes = []; channels = y.channels }

-- all globals first, then the processes in text order
unfoldable pub initial : Model → State
initial m = starts_from m 0 m (bare m (globals_from m 0 m record { values = []; channels = [] }))
