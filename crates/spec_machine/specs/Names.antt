-- Document 01, "Names": "globals, mtype names and proctypes share one space, each declared once; a local hides any of them from its own name on", and "How it moves": "mtype names count
-- from 1 in list order (H)". What names stand for in the statements of a body, read off the declarations: behind them all its locals are seen.
use Rattle.std.specs.Prelude.{ℕ, suc, ◌+◌, Bool, true, false, List, [], ◌∷◌, ◌++◌, map, length, get_or}
use Rattle.base_bytes.specs.Choice.{pick}
use Rattle.base_bytes.specs.Lists.{same}
use Rattle.spec_text.specs.Names.{pid}
use Rattle.spec_grammar.specs.Tree.{Name, Value, unset, set_number, set_minus, set_true, set_false, set_name, set_channel, Variable, variable, Declaration, declare, Group, group, Body, body, Activity, Part, mtypes, process, init, Model}
use Rattle.spec_grammar.specs.Tree as tree
use Rattle.spec_rules.specs.Ceilings.{size_of}

-- ## declarations
-- a variable: its type (the kind of the type's token), how many numbers it has, and its value
pub record Var : Type 0 where
  pub name : Name
  pub type : ℕ
  pub size : ℕ
  pub value : Value

abbrev pub of_variable : ℕ → Variable → Var
of_variable k (variable w z v) = record { name = w; type = k; size = size_of z; value = v }

abbrev pub of_declaration : Declaration → List Var
of_declaration (declare k xs) = map (of_variable k) xs

abbrev pub of_declarations : List Declaration → List Var
of_declarations [] = []
of_declarations (d ∷ ds) = of_declaration d ++ of_declarations ds

abbrev pub of_parameter : ℕ → Name → Var
of_parameter k w = record { name = w; type = k; size = 1; value = unset }

abbrev pub of_group : Group → List Var
of_group (group k ws) = map (of_parameter k) ws

abbrev pub of_groups : List Group → List Var
of_groups [] = []
of_groups (g ∷ gs) = of_group g ++ of_groups gs

abbrev pub locals_of : Body → List Var
locals_of (body ds q) = of_declarations ds

-- the variables that a unit declares: a body's parameters first
abbrev pub variables_of : Part → List Var
variables_of (mtypes ws) = []
variables_of (tree.global d) = of_declaration d
variables_of (process a w gs b) = of_groups gs ++ locals_of b
variables_of (init b) = locals_of b

abbrev pub parameters_of : Part → List Var
parameters_of (mtypes ws) = []
parameters_of (tree.global d) = []
parameters_of (process a w gs b) = of_groups gs
parameters_of (init b) = []

abbrev pub global_in : Part → List Var
global_in (mtypes ws) = []
global_in (tree.global d) = of_declaration d
global_in (process a w gs b) = []
global_in (init b) = []

abbrev pub globals_of : Model → List Var
globals_of [] = []
globals_of (u ∷ m) = global_in u ++ globals_of m

abbrev pub message_in : Part → List Name
message_in (mtypes ws) = ws
message_in (tree.global d) = []
message_in (process a w gs b) = []
message_in (init b) = []

abbrev pub messages_of : Model → List Name
messages_of [] = []
messages_of (u ∷ m) = message_in u ++ messages_of m

-- ## units by their numbers, from 0
abbrev pub unit_at : Model → ℕ → Part
unit_at m k = get_or m k (mtypes [])

-- the unit that is the proctype of this name, counted from k
unfoldable pub proctype_from : ℕ → Model → Name → ℕ
proctype_from k [] w = k
proctype_from k (mtypes ws ∷ m) w = proctype_from (suc k) m w
proctype_from k (tree.global d ∷ m) w = proctype_from (suc k) m w
proctype_from k (process a v gs b ∷ m) w = pick (same v w) k (proctype_from (suc k) m w)
proctype_from k (init b ∷ m) w = proctype_from (suc k) m w

abbrev pub proctype_of : Model → Name → ℕ
proctype_of m w = proctype_from 0 m w

-- ## names
pub data Meaning : Type 0 where
  -- which variable of the process, or of the globals
  local global : ℕ → Var → Meaning
  -- an mtype name, by its number
  message : ℕ → Meaning
  -- `_pid`
  self : Meaning
  unknown : Meaning

unfoldable pub variable_from : (ℕ → Var → Meaning) → ℕ → List Var → Name → Meaning → Meaning
variable_from f i [] w d = d
variable_from f i (x ∷ xs) w d = pick (same x.name w) (f i x) (variable_from f (suc i) xs w d)

unfoldable pub message_from : ℕ → List Name → Name → Meaning
message_from n [] w = unknown
message_from n (v ∷ vs) w = pick (same v w) (message n) (message_from (suc n) vs w)

-- in the statements of the unit u
unfoldable pub meant : Model → Part → Name → Meaning
meant m u w = pick (same w pid) self (variable_from local 0 (variables_of u) w (variable_from global 0 (globals_of m) w (message_from 1 (messages_of m) w)))

abbrev pub number_of : Meaning → ℕ
number_of (local i x) = 0
number_of (global i x) = 0
number_of (message n) = n
number_of self = 0
number_of unknown = 0
