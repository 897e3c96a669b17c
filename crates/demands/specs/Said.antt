-- Top: a statement about the entries, over the specification.
-- WHAT EACH ANSWER STANDS FOR: document 01, "Where an answer is an enum, a definition gives this paper's number and values for each of its cases". A refusal has its number of the table "What is
-- answered", its place (0 where the table says 0) and the length of its part (0 where it has none); all else has its values. Verdicts have the numbers of trails: assert 1, fault 2, finished 3,
-- blocked 4, open 5; faults theirs (specs/Faults.antt of `base_values`).
use Rattle.std.specs.Prelude.{ℕ, List, [], ◌∷◌, Result, Ok, Err}
use Rattle.base_values.specs.Faults.{fault_number}
use Rattle.base_outcome.specs.declared.Partner.{Partner}
use Rattle.base_outcome.specs.declared.Partner.TheVariants.{Nobody, With}
use Rattle.base_refusal.specs.declared.Refusal.{Refusal as Given}
use Rattle.step_entry.specs.declared.Listed.{Listed}
use Rattle.step_entry.specs.declared.Listed.TheVariants as listed
use Rattle.step_entry.specs.declared.Standing.{Standing}
use Rattle.step_entry.specs.declared.Standing.TheVariants as standing
use Rattle.step_entry.specs.declared.Stepped.{Stepped}
use Rattle.step_entry.specs.declared.Stepped.TheVariants as stepped
use Rattle.run_entry.specs.declared.Ending.{Ending}
use Rattle.run_entry.specs.declared.Ending.TheVariants as ending
use Rattle.run_entry.specs.declared.Ran.{Ran}
use Rattle.run_entry.specs.declared.Ran.TheVariants as ran
use Rattle.trail_replay.specs.declared.Replayed.{Replayed}
use Rattle.trail_replay.specs.declared.Replayed.TheVariants as replayed

pub data Said : Type 0 where
  -- number, place, length
  refusal : ℕ → ℕ → ℕ → Said
  values : List ℕ → Said

-- the reader
abbrev pub reader : Result (Unit {0}) Given → Said
reader (Ok u) = values []
reader (Err r) = refusal r.number r.place r.length

-- normal text: how many bytes it has
abbrev pub writer : Result ℕ Given → Said
writer (Ok n) = values (n ∷ [])
writer (Err r) = refusal r.number r.place r.length

-- the list of offered steps: a step's process, number and place, and the process and place that move along, if any; behind the last, how many there are
abbrev pub along : Partner → List ℕ
along Nobody = []
along (With p q) = p ∷ q ∷ []

abbrev pub list : Listed → Said
list (listed.Step x) = values (x.process ∷ x.number ∷ x.place ∷ along x.partner)
list (listed.Only n) = values (n ∷ [])
list (listed.Refused x) = refusal x 0 0

-- the verdict of a state
abbrev pub verdict : Standing → Said
verdict standing.Finished = values (3 ∷ [])
verdict standing.Blocked = values (4 ∷ [])
verdict standing.Open = values (5 ∷ [])
verdict (standing.Refused x) = refusal x 0 0

-- the single step: 0 and how many bytes it printed; a failed assertion; a fault and which
abbrev pub step : Stepped → Said
step (stepped.Took n) = values (0 ∷ n ∷ [])
step stepped.Assert = values (1 ∷ [])
step (stepped.Fault f) = values (2 ∷ fault_number f ∷ [])
step (stepped.Refused x) = refusal x 0 0

-- the automatic run: its verdict and its count, and of a fault which
abbrev pub ended : Ending → ℕ → List ℕ
ended ending.Finished n = 3 ∷ n ∷ []
ended ending.Blocked n = 4 ∷ n ∷ []
ended ending.Open n = 5 ∷ n ∷ []
ended ending.Assert n = 1 ∷ n ∷ []
ended (ending.Fault f) n = 2 ∷ n ∷ fault_number f ∷ []

abbrev pub run : Ran → Said
run (ran.Ended e n) = values (ended e n)
run (ran.Refused x) = refusal x 0 0

-- trail replay: its verdict; a refusal at a line
abbrev pub replay : Replayed → Said
replay (replayed.Accepted v) = values (v ∷ [])
replay (replayed.Refused x line) = refusal x line 0
