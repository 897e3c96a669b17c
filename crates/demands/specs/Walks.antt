-- Top: a statement about the entries, over the specification.
-- WALKS OF A MACHINE, as relations that do not know how anything is worked out: which steps are offered, which ones a run takes, where the records of a trail lead or stop. Document 01, "How it moves", "Trail lines".
use Rattle.std.specs.Prelude.{ℕ, zero, suc, ◌+◌, ◌<◌, ◌≡◌, List, [], ◌∷◌, length}
use Rattle.base_values.specs.declared.Fault.{Fault}
use Rattle.base_outcome.specs.declared.Taken.TheVariants.{Done, Refuted, Faulted}
use Rattle.spec_machine.specs.Machine.{Move, Machine, Step, step_of, move_of, late, offered, advance, verdict}
use Rattle.spec_trails.specs.Runs.{Ending, stood, refuted, faulted}
use Rattle.spec_trails.specs.Replays.{Claim, assertion, fault, standing}
use Rattle.spec_trails.specs.Trails.{Recorded}

-- y is the k-th of a list, from 1
pub data Nth {A : Type 0} (y : A) : ℕ → List A → Type 0 where
  here : {l : List A} → Nth y 1 (y ∷ l)
  later : {k : ℕ} {x : A} {l : List A} → Nth y k l → Nth y (suc k) (x ∷ l)

-- the step of a record, which makes this move
abbrev pub chosen : Recorded → Move → Step
chosen a y = step_of a.process a.choice y

module _ {S : Type 0} (M : Machine S) where
  -- step x is offered: its process is there, and of its moves the one with its number is that of x
  pub record Offers (s : S) (x : Step) : Type 0 where
    pub there : x.process < M.processes s
    pub listed : Nth (move_of x) x.number (M.steps s (late M s) x.process)

  -- from a state and with a limit a run takes these steps, ends so, and leaves a state: "takes first offered steps until none is, one fails or an unsigned limit is met"
  pub data Runs : ℕ → S → List Step → Ending → S → Type 0 where
    limit_met : (s : S) → Runs zero s [] (stood (verdict M s)) s
    none_offered : (n : ℕ) (s : S) → offered M s ≡ [] → Runs (suc n) s [] (stood (verdict M s)) s
    -- "A failed assertion or fault changes no state"; "After a failing step its run has no further turn, and only its own verdict holds"
    assertion_failed : (n : ℕ) (s : S) (x : Step) (l : List Step) → offered M s ≡ x ∷ l → advance M s x ≡ (Refuted, s) → Runs (suc n) s (x ∷ []) refuted s
    at_fault : (n : ℕ) (s : S) (x : Step) (l : List Step) (f : Fault) → offered M s ≡ x ∷ l → advance M s x ≡ (Faulted f, s) → Runs (suc n) s (x ∷ []) (faulted f) s
    one_more_lem : (n : ℕ) (s t : S) (x : Step) (l xs : List Step) (e : Ending) (u : S) → offered M s ≡ x ∷ l → advance M s x ≡ (Done, t) → Runs n t xs e u
        → Runs (suc n) s (x ∷ xs) e u

  -- the record's step is offered, and fails with this verdict
  pub data Fails (a : Recorded) (s : S) : Claim → Type 0 where
    asserted : (y : Move) → Offers s (chosen a y) → advance M s (chosen a y) ≡ (Refuted, s) → Fails a s assertion
    faulty : (y : Move) (f : Fault) → Offers s (chosen a y) → advance M s (chosen a y) ≡ (Faulted f, s) → Fails a s fault

  -- the records, each offered in its turn and none behind a failed one, lead from a state to a verdict, and leave a state
  pub data Walks : List Recorded → S → Claim → S → Type 0 where
    stands : (s : S) → Walks [] s (standing (verdict M s)) s
    fails : (a : Recorded) (s : S) (c : Claim) → Fails a s c → Walks (a ∷ []) s c s
    goes_on : (a : Recorded) (more : List Recorded) (s t : S) (y : Move) (c : Claim) (u : S) → Offers s (chosen a y) → advance M s (chosen a y) ≡ (Done, t) → Walks more t c u
        → Walks (a ∷ more) s c u

  -- the records from a line on, from a state, with a claim behind them, meet a refusal at a line: "replay's 11 and 12 leave the state reached before the refused record"
  pub data Stops (claim : Claim) : List Recorded → ℕ → S → ℕ → ℕ → S → Type 0 where
    -- "11: trail step .. not offered"
    not_offered : (a : Recorded) (more : List Recorded) (line : ℕ) (s : S) → ((y : Move) → Offers s (chosen a y) → ⊥) → Stops claim (a ∷ more) line s 11 line s
    -- "A step after a failed assertion or fault is 11"
    after_failure : (a b : Recorded) (more : List Recorded) (line : ℕ) (s : S) (c : Claim) → Fails a s c → Stops claim (a ∷ b ∷ more) line s 11 (line + 1) s
    -- "12: trail's claimed verdict is not the one reached", at the last line
    other_verdict : (l : List Recorded) (line : ℕ) (s : S) (c : Claim) (t : S) → Walks l s c t → (c ≡ claim → ⊥) → Stops claim l line s 12 (line + length l) t
    later : (a : Recorded) (more : List Recorded) (line : ℕ) (s t : S) (y : Move) (x n : ℕ) (u : S) → Offers s (chosen a y) → advance M s (chosen a y) ≡ (Done, t)
        → Stops claim more (line + 1) t x n u → Stops claim (a ∷ more) line s x n u
