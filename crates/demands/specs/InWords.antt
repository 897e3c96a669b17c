-- Top: a statement about the entries, over the specification.
-- WHAT FOLLOWS FROM DEMAND 2, in document 01's words: what the machine's list and verdict are, that the entries leave states of the model, that trails can be written of all walks.
use Rattle.std.specs.Prelude.{ℕ, ◌≤◌, ◌<◌, ◌≡◌, true, false, ◌⊎◌, ◌↔◌, List, [], ◌∷◌, length, ℤ}
use Rattle.base_ceilings.specs.Ceilings.{steps_most}
use Rattle.spec_grammar.specs.Tree.{Model}
use Rattle.spec_machine.specs.State.{State}
use Rattle.spec_machine.specs.Begins.{initial}
use Rattle.spec_machine.specs.Machine.{Step, offered, verdict, finished, blocked, «open»}
use Rattle.spec_machine.specs.Steps.{machine_of}
use Rattle.spec_trails.specs.Trails.{Recorded, trail_of}
use Rattle.spec_trails.specs.Replays.{Claim, claimed}
use Rattle.spec_trails.specs.Texts.{TextOf}
use Rattle.step_entry.specs.Entries.{foreign_of, refusal_of, start_left, outcome_of}
use Rattle.run_entry.specs.Entries.{ran_of}
use Rattle.trail_replay.specs.Entries.{replayed_of}
use Rattle.demands.specs.Said as said
use Rattle.demands.specs.Said.{values}
use Rattle.demands.specs.Lent.{Rooms, Tables, Numbers, leaves}
use Rattle.demands.specs.Walks.{Nth, Offers, Walks}

-- ## the machine of a model in any state
module _ (m : Model) (σ : State) where
  pub record Listing : Type 0 where
    -- the list holds exactly the offered steps
    pub exactly : (x : Step) → ((k : ℕ) × Nth x k (offered (machine_of m) σ)) ↔ Offers (machine_of m) σ x
    -- "Offered steps are listed by process number, then text order": a place lies behind another where it stands behind it in the text
    pub in_order : (k k' : ℕ) (x y : Step) → k < k' → Nth x k (offered (machine_of m) σ) → Nth y k' (offered (machine_of m) σ)
        → (x.process < y.process) ⊎ ((x.process ≡ y.process) × (x.number < y.number) × (x.place < y.place))

  -- "`finished` (all ended), `blocked`, `open` (some step offered)"
  pub record Verdicts : Type 0 where
    pub is_finished : verdict (machine_of m) σ ≡ finished ↔ ((p : ℕ) → p < length σ.processes → (machine_of m).ended σ p ≡ true)
    pub is_blocked : verdict (machine_of m) σ ≡ blocked ↔ ((x : Step) → Offers (machine_of m) σ x → ⊥) × ((p : ℕ) × (p < length σ.processes) × ((machine_of m).ended σ p ≡ false))
    pub is_open : verdict (machine_of m) σ ≡ «open» ↔ (x : Step) × Offers (machine_of m) σ x

-- ## "A state of the model": what the entries leave is one
abbrev pub IsState : List ℕ → List ℤ → Type 0
IsState ts s = (m : Model) × (σ : State) × Tables ts m × Numbers m s σ

pub record StatesLeft (ts : List ℕ) (s : List ℤ) : Type 0 where
  pub start : foreign_of ts s ≡ 0 → IsState ts (start_left ts s)
  pub step : refusal_of ts s ≡ 0 → (p k : ℕ) (out : List ℕ) → IsState ts (outcome_of ts s p k out).state
  pub run : refusal_of ts s ≡ 0 → (limit : ℕ) → IsState ts (ran_of ts s limit).1
  pub replay : foreign_of ts s ≡ 0 → (trail : List ℕ) (l : List Recorded) (v : ℕ) → TextOf steps_most trail l v → IsState ts (replayed_of ts trail s).1

pub record InWords : Type 0 where
  pub listing : (m : Model) (σ : State) → Listing m σ
  pub verdicts : (m : Model) (σ : State) → Verdicts m σ
  pub states_left : (ts : List ℕ) (s : List ℤ) → StatesLeft ts s
  -- every walk from the initial state, written as a trail, is accepted
  pub walks_accepted : (ts : List ℕ) (s : List ℤ) (m : Model) (l : List Recorded) (claim : Claim) (τ : State) → Rooms ts s → Tables ts m → length l ≤ steps_most
      → Walks (machine_of m) l (initial m) claim τ → (said.replay (replayed_of ts (trail_of l (claimed claim)) s).0 ≡ values (claimed claim ∷ [])) × ((replayed_of ts (trail_of l (claimed claim)) s).1 ≡ leaves s m τ)
