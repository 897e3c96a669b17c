-- Top: a statement about the entries, over the specification.
-- DEMAND 2: the reader accepts exactly the edition's texts; steps are offered exactly when executable and give exactly the defined state; blocked, verdicts and trail acceptance exactly as defined.
-- Here is what the entries answer and leave where nothing is refused, by the numbers of specs/Said.antt; what is refused is demand 1's.
use Rattle.std.specs.Prelude.{ℕ, suc, ◌≤◌, ◌≡◌, ◌↔◌, List, [], ◌∷◌, ◌++◌, length, drop, ℤ}
use Rattle.base_ceilings.specs.Ceilings.{print_room, steps_most, tables_room}
use Rattle.base_values.specs.declared.Fault.{Fault}
use Rattle.base_values.specs.Faults.{fault_number}
use Rattle.base_outcome.specs.declared.Taken.TheVariants.{Done, Refuted, Faulted}
use Rattle.spec_grammar.specs.Tree.{Model}
use Rattle.spec_machine.specs.State.{State}
use Rattle.spec_machine.specs.Begins.{initial}
use Rattle.spec_machine.specs.Machine.{Move, Step, step_of, offered, advance, verdict}
use Rattle.spec_machine.specs.Steps.{machine_of}
use Rattle.spec_trails.specs.Runs.{Ending, stood, refuted, faulted}
use Rattle.spec_trails.specs.Replays.{assertion, fault, standing, claimed}
use Rattle.spec_trails.specs.Trails.{Recorded}
use Rattle.spec_trails.specs.Texts.{TextOf}
use Rattle.spec_refusals.specs.Legal.{Legal}
use Rattle.read_entry.specs.Entries.{read_of, left_of}
use Rattle.read_genuine.specs.Genuine.{written}
use Rattle.step_entry.specs.Entries.{foreign_of, start_left, offered_of, verdict_for, outcome_of}
use Rattle.run_entry.specs.Entries.{ran_of}
use Rattle.trail_replay.specs.Entries.{replayed_of}
use Rattle.demands.specs.Said as said
use Rattle.demands.specs.Said.{values}
use Rattle.demands.specs.Lent.{Rooms, Tables, Holds, leaves, OneCase}
use Rattle.demands.specs.Walks.{Nth, Offers, Runs, Walks}
use Rattle.demands.specs.InWords.{InWords}

-- ## THE READER ACCEPTS EXACTLY THE EDITION'S TEXTS
pub record Reading (t : List ℕ) : Type 0 where
  pub accepts : (old : List ℕ) → (said.reader (read_of t old) ≡ values []) ↔ (tables_room ≤ length old) × Legal t
  -- one tree for a text
  pub one_tree : (l k : Legal t) → l.tree ≡ k.tree
  -- "Tables hold exactly what the tree holds; they are compared over their written part"
  pub tables : (u old new : List ℕ) (l : Legal t) (k : Legal u) → tables_room ≤ length old → tables_room ≤ length new → (written (left_of t old) ≡ written (left_of u new)) ↔ (l.tree ≡ k.tree)
  -- "What lies beyond the written part stays"
  pub beyond : (old : List ℕ) → Legal t → tables_room ≤ length old → left_of t old ≡ written (left_of t old) ++ drop (length (written (left_of t old))) old

-- ## THE STEPPER
-- what a run says: the verdict that the machine's run ends with and the number of steps taken, "a failing one included"; of a fault which
abbrev pub ended : Ending → ℕ → List ℕ
ended (stood v) n = claimed (standing v) ∷ n ∷ []
ended refuted n = claimed assertion ∷ n ∷ []
ended (faulted f) n = claimed fault ∷ n ∷ fault_number f ∷ []

-- `step`: what it says, and the numbers and bytes that it leaves
pub record Steps (ts : List ℕ) (s : List ℤ) (p k : ℕ) (out l : List ℕ) (left : List ℤ) (printed : List ℕ) : Type 0 where
  pub says : said.step (outcome_of ts s p k out).answer ≡ values l
  pub leaves_numbers : (outcome_of ts s p k out).state ≡ left
  pub leaves_bytes : (outcome_of ts s p k out).printed ≡ printed

-- in a state σ of the model m, of which the tables and the numbers are lent
module _ (ts : List ℕ) (s : List ℤ) (m : Model) (σ : State) where
  -- `offered`: the n-th step of the machine's list, from 0; behind the last, how many there are
  pub record Offering : Type 0 where
    pub listed : (n : ℕ) (x : Step) → Nth x (suc n) (offered (machine_of m) σ) → said.list (offered_of ts s n) ≡ values (x.process ∷ x.number ∷ x.place ∷ said.along x.partner)
    pub behind : (n : ℕ) → length (offered (machine_of m) σ) ≤ n → said.list (offered_of ts s n) ≡ values (length (offered (machine_of m) σ) ∷ [])

  -- an offered step, with room for what it prints: the state that the machine gives, and the text whole
  pub record Taking (p k : ℕ) (out : List ℕ) (y : Move) : Type 0 where
    pub done : (τ : State) → advance (machine_of m) σ (step_of p k y) ≡ (Done, τ)
        → let text = (machine_of m).printed σ (step_of p k y) in Steps ts s p k out (0 ∷ length text ∷ []) (leaves s m τ) (text ++ drop (length text) out)
    -- "A failed assertion or fault changes no state and prints nothing"
    pub asserted : (τ : State) → advance (machine_of m) σ (step_of p k y) ≡ (Refuted, τ) → Steps ts s p k out (claimed assertion ∷ []) s out
    pub faulty : (τ : State) (f : Fault) → advance (machine_of m) σ (step_of p k y) ≡ (Faulted f, τ) → Steps ts s p k out (claimed fault ∷ fault_number f ∷ []) s out

  -- there is a run of the machine, and any is what is answered
  pub record Running (limit : ℕ) : Type 0 where
    pub steps : List Step
    pub ending : Ending
    pub state : State
    pub runs : Runs (machine_of m) limit σ steps ending state
    pub answer : (l : List Step) (e : Ending) (τ : State) → Runs (machine_of m) limit σ l e τ → (said.run (ran_of ts s limit).0 ≡ values (ended e (length l))) × ((ran_of ts s limit).1 ≡ leaves s m τ)

  pub record Moving : Type 0 where
    pub offering : Offering
    pub taking : (p k : ℕ) (out : List ℕ) (y : Move) → print_room ≤ length out → Offers (machine_of m) σ (step_of p k y) → Taking p k out y
    pub verdict_of : said.verdict (verdict_for ts s) ≡ values (claimed (standing (verdict (machine_of m) σ)) ∷ [])
    pub running : (limit : ℕ) → Running limit

-- ## TRAILS: one that is accepted is the text of its records, which, each offered in its turn, lead from the initial state to the claimed verdict, and leave that state
pub record Acceptable (ts trail : List ℕ) (s : List ℤ) (v : ℕ) (left : List ℤ) : Type 0 where
  pub rooms : Rooms ts s
  pub model : Model
  pub tables : Tables ts model
  pub records : List Recorded
  pub formed : TextOf steps_most trail records v
  pub reached : State
  pub walk : Walks (machine_of model) records (initial model) formed.claim reached
  pub is_left : left ≡ leaves s model reached

-- ## every text, tables, numbers and trail
pub record Demand2 : Type 0 where
  pub reader : (t : List ℕ) → Reading t
  pub cases : (ts : List ℕ) (s : List ℤ) → OneCase ts s
  -- `start`, whose lent numbers are room alone
  pub start : (ts : List ℕ) (s : List ℤ) (m : Model) → Rooms ts s → Tables ts m → (foreign_of ts s ≡ 0) × (start_left ts s ≡ leaves s m (initial m))
  pub moves : (ts : List ℕ) (s : List ℤ) (m : Model) (σ : State) → Holds ts s m σ → Moving ts s m σ
  -- the number of a fault says which it is
  pub faults_apart : (f g : Fault) → fault_number f ≡ fault_number g → f ≡ g
  pub trails : (ts trail : List ℕ) (s : List ℤ) (v : ℕ) (left : List ℤ) → ((said.replay (replayed_of ts trail s).0 ≡ values (v ∷ [])) × ((replayed_of ts trail s).1 ≡ left)) ↔ Acceptable ts trail s v left
  -- what follows of the machine and of what is left, in document 01's words
  pub in_words : InWords
