-- Document 01, "What is answered": "A state of the model (refusal 9): values in their types, places that belong to the process's proctype or its end, messages in their field types, counts
-- within ceilings, channels with the capacity and fields of some declaration". (That "unused numbers" are 0 is the layout's, not the state's.)
use Rattle.std.specs.Prelude.{ℕ, zero, suc, ◌+◌, ◌≤◌, ◌<◌, ◌≡◌, List, [], ◌∷◌, length, get_or, ℤ, pos}
use Rattle.base_ceilings.specs.Ceilings.{channels_most, processes_most}
use Rattle.base_values.specs.Types.{cast_of}
use Rattle.spec_grammar.specs.Tree.{set_channel, Model}
use Rattle.spec_machine.specs.State.{Channel, Process, State, no_channel, no_process}
use Rattle.spec_machine.specs.Names.{Var, variables_of, globals_of, unit_at}
use Rattle.spec_machine.specs.Plain.{no_var, declared_by}

-- each number of a variable is a value of its type
abbrev pub Typed : ℕ → List ℤ → Type 0
Typed k l = (i : ℕ) → i < length l → cast_of k (get_or l i (pos 0)) ≡ get_or l i (pos 0)

-- each variable has as many numbers as it is declared with, and values of its type
pub record Filled (xs : List Var) (l : List (List ℤ)) : Type 0 where
  pub all : length l ≡ length xs
  pub sized : (i : ℕ) → i < length xs → length (get_or l i []) ≡ (get_or xs i no_var).size
  pub typed : (i : ℕ) → i < length xs → Typed (get_or xs i no_var).type (get_or l i [])

-- a message has a value of its type for each field
pub record Fielded (ks : List ℕ) (l : List ℤ) : Type 0 where
  pub long : length l ≡ length ks
  pub typed : (i : ℕ) → i < length ks → cast_of (get_or ks i 0) (get_or l i (pos 0)) ≡ get_or l i (pos 0)

-- the channel of a declaration `[n] of { ks }`
pub record ChannelFits (m : Model) (c : Channel) : Type 0 where
  pub capacity : ℕ
  pub types : List ℕ
  pub declared : declared_by m c ≡ set_channel capacity types
  pub room : length c.held ≤ capacity
  pub messages : (i : ℕ) → i < length c.held → Fielded types (get_or c.held i [])

-- P says which places belong to which unit
pub record ProcessFits (P : ℕ → ℕ → Type 0) (m : Model) (x : Process) : Type 0 where
  pub place : P x.unit x.place
  pub values : Filled (variables_of (unit_at m x.unit)) x.variables

pub record Fits (P : ℕ → ℕ → Type 0) (m : Model) (σ : State) : Type 0 where
  pub globals : Filled (globals_of m) σ.globals
  pub processes : length σ.processes ≤ processes_most
  pub channels : length σ.channels ≤ channels_most
  pub each : (p : ℕ) → p < length σ.processes → ProcessFits P m (get_or σ.processes p no_process)
  pub queues : (c : ℕ) → c < length σ.channels → ChannelFits m (get_or σ.channels c no_channel)
