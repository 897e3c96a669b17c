-- Top: a statement about the entries, over the specification.
-- WHAT IS LENT, and what is left of it: document 01, "What is answered": "Stepping: 7, 8, 9". `ts` are the lent tables, `s` the lent numbers of a state.
use Rattle.std.specs.Prelude.{ℕ, ◌≤◌, ◌<◌, ◌≡◌, ◌⊎◌, List, ◌++◌, length, drop, ℤ}
use Rattle.base_ceilings.specs.Ceilings.{state_room, tables_room}
use Rattle.spec_grammar.specs.Tree.{Model}
use Rattle.spec_refusals.specs.Legal.{Legal}
use Rattle.read_entry.specs.Entries.{left_of}
use Rattle.read_genuine.specs.Genuine.{written}
use Rattle.spec_machine.specs.State.{State}
use Rattle.agree_encode.specs.Encode.{encode}
use Rattle.spec_machine.specs.Places.{Belongs}
use Rattle.spec_machine.specs.Fits.{Fits}

-- "tables are lent as 16,384 unsigned 32-bit numbers, a state as 2,048 signed ones"
pub record Rooms (ts : List ℕ) (s : List ℤ) : Type 0 where
  pub tables : tables_room ≤ length ts
  pub state : state_room ≤ length s

-- the tables are what the reader leaves of a legal text, and this is its tree; "they are compared over their written part"
pub record Tables (ts : List ℕ) (m : Model) : Type 0 where
  pub text : List ℕ
  pub legal : Legal text
  pub tree : legal.tree ≡ m
  pub lent : List ℕ
  pub room : tables_room ≤ length lent
  pub wrote : written ts ≡ written (left_of text lent)

-- the numbers are those of σ, which is a state of the model; anything may lie behind them
pub record Numbers (m : Model) (s : List ℤ) (σ : State) : Type 0 where
  pub fits : Fits (Belongs m) m σ
  pub are : s ≡ encode m σ ++ drop state_room s

-- tables of the model m, and numbers of its state σ
pub record Holds (ts : List ℕ) (s : List ℤ) (m : Model) (σ : State) : Type 0 where
  pub rooms : Rooms ts s
  pub tables : Tables ts m
  pub numbers : Numbers m s σ

-- what is left of the lent numbers `s` where they become those of a state: "A state is always written whole"; "What lies beyond the written part stays"
unfoldable pub leaves : List ℤ → Model → State → List ℤ
leaves s m σ = encode m σ ++ drop state_room s

-- 7, 8 or 9 is the refusal of what is lent
pub data Refuses (ts : List ℕ) (s : List ℤ) : ℕ → Type 0 where
  -- "a lent buffer shorter than its room"
  no_room : (length ts < tables_room) ⊎ (length s < state_room) → Refuses ts s 7
  -- "tables are those of no accepted text"
  no_model : Rooms ts s → ((m : Model) → Tables ts m → ⊥) → Refuses ts s 8
  -- "numbers are no state of the model"
  no_state : (m : Model) → Rooms ts s → Tables ts m → ((σ : State) → Numbers m s σ → ⊥) → Refuses ts s 9

-- whatever is lent is refused, or holds a model and a state of it; never both, and never two of them
pub record OneCase (ts : List ℕ) (s : List ℤ) : Type 0 where
  pub some_case : ((x : ℕ) × Refuses ts s x) ⊎ ((m : Model) × (σ : State) × Holds ts s m σ)
  pub never_both : (x : ℕ) (m : Model) (σ : State) → Refuses ts s x → Holds ts s m σ → ⊥
  pub one_model : (m n : Model) → Tables ts m → Tables ts n → m ≡ n
  pub one_state : (m : Model) (σ τ : State) → Tables ts m → Numbers m s σ → Numbers m s τ → σ ≡ τ
