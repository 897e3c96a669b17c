-- DEMAND 2 AS FUNCTIONS: what each entry answers and leaves, by the cases of what is lent. What specs/Demand1.antt and specs/Demand2.antt state by relations is drawn from `by_cases` (proofs/ByCases.antt),
-- which says that the entries are these functions.
use Prim.Native.Nat.{ℕ, zero, suc, ◌<◌}
use mathlib.Core.List.{List, [], ◌∷◌, ◌++◌}
use lib.ListN.{length, drop}
use lib.IntN.{ℤ}
use Rattle.base_outcome.specs.declared.Taken.{Taken}
use Rattle.base_outcome.specs.declared.Taken.TheVariants.{Done, Refuted, Faulted, Idle}
use Rattle.step_entry.specs.Entries.{Outcome, refused_by, foreign_of, refusal_of, start_left, offered_of, verdict_for, outcome_of}
use Rattle.step_entry.specs.declared.Listed.{Listed}
use Rattle.step_entry.specs.declared.Standing.{Standing}
use Rattle.spec_machine.specs.Machine.{Step, Verdict, finished, blocked, «open», offered, advance, verdict, asked}
use mathlib.Core.Option.{Option, none, some}
use lib.Dec.{ltb}
use Rattle.base_bytes.specs.Choice.{pick}
use Rattle.spec_grammar.specs.Tree.{Model}
use Rattle.run_entry.specs.Runs.{ending_as}
use Rattle.run_entry.specs.declared.Ran.{Ran}
use Rattle.trail_form.specs.Forms.{Form, form, spoiled, form_of}
use Rattle.trail_replay.specs.Replay.{replayed_as}
use Rattle.spec_machine.specs.State.{State}
use Rattle.spec_machine.specs.Begins.{initial}
use Rattle.spec_trails.specs.Runs.{Ran as Run, run_from}
use Rattle.spec_trails.specs.Replays.{claim_by, Replayed, replay_from}
use Rattle.spec_machine.specs.Steps.{machine_of}
use Rattle.base_ceilings.specs.Ceilings.{print_room, state_room, tables_room, trail_most}
use Rattle.demands.specs.Lent.{Rooms, Tables, Numbers, Holds, leaves}
use Rattle.run_entry.specs.Entries.{ran_of}
use Rattle.trail_replay.specs.Entries.{replayed_of}
use mathlib.Core.Path.{◌≡◌}
use mathlib.Core.Logic.{◌⊎◌}
use Rattle.step_entry.specs.declared.Listed.TheVariants as listed
use Rattle.step_entry.specs.declared.Standing.TheVariants as standing
use Rattle.step_entry.specs.declared.Stepped.TheVariants as stepped
use Rattle.run_entry.specs.declared.Ran.TheVariants as ran
use Rattle.trail_replay.specs.declared.Replayed as trails
use Rattle.trail_replay.specs.declared.Replayed.TheVariants as replayed

-- ## cases
pub data Lent (ts : List ℕ) (s : List ℤ) : Type 0 where
  -- 7: "a lent buffer shorter than its room"
  no_room : (length ts < tables_room) ⊎ (length s < state_room) → Lent ts s
  -- 8: "tables are those of no accepted text"
  no_model : Rooms ts s → ((m : Model) → Tables ts m → ⊥) → Lent ts s
  -- 9: "numbers are no state of the model"
  no_state : (m : Model) → Rooms ts s → Tables ts m → ((σ : State) → Numbers m s σ → ⊥) → Lent ts s
  -- none of these
  a_state : (m : Model) (σ : State) → Holds ts s m σ → Lent ts s

-- ## answers
-- "`finished` (all ended), `blocked`, `open` (some step offered)"
abbrev pub standing_by : Verdict → Standing
standing_by finished = standing.Finished
standing_by blocked = standing.Blocked
standing_by «open» = standing.Open

-- the n-th of the steps, from 0, or how many there are
abbrev pub listed_by : ℕ → ℕ → List Step → Listed
listed_by all n [] = listed.Only all
listed_by all zero (x ∷ l) = listed.Step x
listed_by all (suc n) (x ∷ l) = listed_by all n l

-- a step, by what came of it, the numbers after it and the text that it prints; `s` are the numbers before it, `out` the bytes that are lent
abbrev pub done_by : List ℤ → List ℕ → Taken → List ℤ → List ℕ → Outcome
done_by s out Done after text = record { answer = stepped.Took (length text); state = after; printed = text ++ drop (length text) out }
-- "A failed assertion or fault changes no state and prints nothing"
done_by s out Refuted after text = record { answer = stepped.Assert; state = s; printed = out }
done_by s out (Faulted f) after text = record { answer = stepped.Fault f; state = s; printed = out }
-- nothing came of it: no offered step is such (`Taking`, specs/InWords.antt)
done_by s out Idle after text = refused_by 11 s out

-- ## where nothing is refused, `s` being the lent numbers
module _ (s : List ℤ) where
  -- `step`: 11 where the step that is asked for is not offered
  abbrev pub taken_by : Model → State → List ℕ → Option Step → Outcome
  taken_by m σ out none = refused_by 11 s out
  taken_by m σ out (some x) =
      let M = machine_of m in done_by s out (advance M σ x).0 (leaves s m (advance M σ x).1) (M.printed σ x)

  -- `run`: the machine's run with its count
  abbrev pub ran_by : Model → Run State → Ran × List ℤ
  ran_by m r = (ran.Ended (ending_as r.ending) r.count, leaves s m r.state)

  -- `replay`: the machine's replay of the records, and the state that it leaves
  abbrev pub answered_by : Model → ℕ → Replayed × State → trails.Replayed × List ℤ
  answered_by m claim r = (replayed_as claim r.0, leaves s m r.1)

  -- by the form of the trail, whose refusals begin with that of length
  abbrev pub formed_by : Model → Form → trails.Replayed × List ℤ
  formed_by m (spoiled x line) = (replayed.Refused x line, s)
  formed_by m (form l claim) = answered_by m claim (replay_from (machine_of m) (claim_by claim) l 1 none (initial m))

-- ## each entry by the cases
module _ {ts : List ℕ} {s : List ℤ} where
  -- the number of the refusal, 0 for none
  abbrev pub refusal_by : Lent ts s → ℕ
  refusal_by (no_room h) = 7
  refusal_by (no_model r h) = 8
  refusal_by (no_state m r h g) = 9
  refusal_by (a_state m σ h) = 0

  -- `start`, whose lent numbers are room alone: the number of the refusal, and the numbers left
  abbrev pub start_by : Lent ts s → ℕ × List ℤ
  start_by (no_room h) = (7, s)
  start_by (no_model r h) = (8, s)
  start_by (no_state m r h g) = (0, leaves s m (initial m))
  start_by (a_state m σ h) = (0, leaves s m (initial m))

  -- `offered`: the n-th of all offered steps
  abbrev pub offered_by : Lent ts s → ℕ → Listed
  offered_by (no_room h) n = listed.Refused 7
  offered_by (no_model r h) n = listed.Refused 8
  offered_by (no_state m r h g) n = listed.Refused 9
  offered_by (a_state m σ h) n = listed_by (length (offered (machine_of m) σ)) n (offered (machine_of m) σ)

  -- `verdict`
  abbrev pub verdict_by : Lent ts s → Standing
  verdict_by (no_room h) = standing.Refused 7
  verdict_by (no_model r h) = standing.Refused 8
  verdict_by (no_state m r h g) = standing.Refused 9
  verdict_by (a_state m σ h) = standing_by (verdict (machine_of m) σ)

  -- `step`: the k-th offered step of process p
  abbrev pub stepped_by : Lent ts s → ℕ → ℕ → List ℕ → Outcome
  stepped_by (no_room h) p k out = refused_by 7 s out
  stepped_by (no_model r h) p k out = refused_by 8 s out
  stepped_by (no_state m r h g) p k out = refused_by 9 s out
  stepped_by (a_state m σ h) p k out = taken_by s m σ out (asked (machine_of m) p k (offered (machine_of m) σ))

  -- "printed text of one step as 128 bytes": 7 comes first
  abbrev pub step_by : Lent ts s → ℕ → ℕ → List ℕ → Outcome
  step_by x p k out = pick (ltb (length out) print_room) (refused_by 7 s out) (stepped_by x p k out)

  -- `run`
  abbrev pub run_by : Lent ts s → ℕ → Ran × List ℤ
  run_by (no_room h) n = (ran.Refused 7, s)
  run_by (no_model r h) n = (ran.Refused 8, s)
  run_by (no_state m r h g) n = (ran.Refused 9, s)
  run_by (a_state m σ h) n = ran_by s m (run_from (machine_of m) n σ)

  -- `replay`, whose lent numbers are room alone: "7, length, 8, form .., then steps"
  abbrev pub replay_by : Lent ts s → List ℕ → trails.Replayed × List ℤ
  replay_by (no_room h) trail = (replayed.Refused 7 0, s)
  replay_by (no_model r h) trail = pick (ltb trail_most (length trail)) (replayed.Refused 2 0, s) (replayed.Refused 8 0, s)
  replay_by (no_state m r h g) trail = formed_by s m (form_of trail)
  replay_by (a_state m σ h) trail = formed_by s m (form_of trail)

-- ## each entry is what it is in each case
pub record ByCases (ts : List ℕ) (s : List ℤ) : Type 0 where
  pub some_case : Lent ts s
  pub refusal : (x : Lent ts s) → refusal_of ts s ≡ refusal_by x
  pub start : (x : Lent ts s) → (foreign_of ts s, start_left ts s) ≡ start_by x
  pub offered : (x : Lent ts s) (n : ℕ) → offered_of ts s n ≡ offered_by x n
  pub verdict : (x : Lent ts s) → verdict_for ts s ≡ verdict_by x
  pub step : (x : Lent ts s) (p k : ℕ) (out : List ℕ) → outcome_of ts s p k out ≡ step_by x p k out
  pub run : (x : Lent ts s) (limit : ℕ) → ran_of ts s limit ≡ run_by x limit
  pub replay : (x : Lent ts s) (trail : List ℕ) → replayed_of ts trail s ≡ replay_by x trail
