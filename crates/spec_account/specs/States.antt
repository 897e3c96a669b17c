-- HOW A STATE IS SHOWN: a line for each global variable with its numbers; for each process, by its number, its proctype and the statement at which it stands, and a line for each of its variables; for each
-- channel, by its number, its capacity and its messages, the oldest first.
use Rattle.std.specs.Prelude.{ℕ, suc, ◌+◌, Bool, true, false, List, [], ◌∷◌, ◌++◌, length, get_or, ℤ}
use Rattle.base_bytes.specs.Choice.{pick}
use Rattle.base_kinds.specs.Kinds.{bytes}
use Rattle.spec_text.specs.Formats.{digits_of, decimal_of}
use Rattle.spec_grammar.specs.Tree.{Model}
use Rattle.spec_machine.specs.State.{Channel, Process, State, no_process}
use Rattle.spec_machine.specs.Names.{Var, variables_of, globals_of, unit_at}
use Rattle.spec_machine.specs.Plain.{capacity_in, declared_by}
use Rattle.spec_machine.specs.Steps.{Found, nothing, found, standing, ended_of}
use Rattle.spec_account.specs.Bytes.{each_visible}
use Rattle.spec_account.specs.Statements.{statement_text, title_of}

-- each number behind a blank
unfoldable pub values_text : List ℤ → List ℕ
values_text [] = []
values_text (v ∷ vs) = 32 ∷ (decimal_of v ++ values_text vs)

-- `(1,2)`; each number but the first behind a comma
unfoldable pub further_text : List ℤ → List ℕ
further_text [] = []
further_text (v ∷ vs) = 44 ∷ (decimal_of v ++ further_text vs)

abbrev pub joined_text : List ℤ → List ℕ
joined_text [] = []
joined_text (v ∷ vs) = decimal_of v ++ further_text vs

abbrev pub message_text : List ℤ → List ℕ
message_text l = bytes " (" ++ (joined_text l ++ bytes ")")

unfoldable pub messages_text : List (List ℤ) → List ℕ
messages_text [] = []
messages_text (l ∷ ls) = message_text l ++ messages_text ls

-- variables with their numbers, each behind the word
unfoldable pub variables_text : List ℕ → List Var → List (List ℤ) → List ℕ
variables_text word [] vs = []
variables_text word (x ∷ xs) [] = []
variables_text word (x ∷ xs) (v ∷ vs) = word ++ (x.name ++ (values_text v ++ (10 ∷ variables_text word xs vs)))

module _ (m : Model) (σ : State) where
  abbrev pub globals_text : List ℕ
  globals_text = variables_text (bytes "global ") (globals_of m) σ.globals

  -- a statement, as it is shown: what is shown determines it (`statement_determines`, proofs/Bytes.antt)
  abbrev pub at_text : Found → List ℕ
  at_text nothing = []
  at_text (found a n o) = each_visible (statement_text a)

  -- process p
  abbrev pub standing_text : ℕ → List ℕ
  standing_text p = pick (ended_of m σ p) (bytes " ended") (bytes " at " ++ at_text (standing m σ p (get_or σ.processes p no_process).place))

  abbrev pub locals_text : ℕ → List ℕ
  locals_text p = variables_text (bytes "local ") (variables_of (unit_at m (get_or σ.processes p no_process).unit)) (get_or σ.processes p no_process).variables

  abbrev pub title_text : ℕ → List ℕ
  title_text p = title_of (unit_at m (get_or σ.processes p no_process).unit)

  abbrev pub process_text : ℕ → List ℕ
  process_text p = bytes "process " ++ (digits_of p ++ (32 ∷ (title_text p ++ (standing_text p ++ (10 ∷ locals_text p)))))

  -- the processes from p on, of which the list has as many
  unfoldable pub processes_text : ℕ → List Process → List ℕ
  processes_text p [] = []
  processes_text p (x ∷ xs) = process_text p ++ processes_text (p + 1) xs

  -- the channels, the first of which has the number n
  unfoldable pub channels_text : ℕ → List Channel → List ℕ
  channels_text n [] = []
  channels_text n (c ∷ cs) = bytes "channel " ++ (digits_of n ++ (32 ∷ (digits_of (capacity_in (declared_by m c)) ++ (messages_text c.held ++ (10 ∷ channels_text (n + 1) cs)))))

  unfoldable pub state_text : List ℕ
  state_text = globals_text ++ (processes_text 0 σ.processes ++ channels_text 1 σ.channels)
