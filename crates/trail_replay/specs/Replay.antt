-- Mechanism, held to the specification by `demand2` (crate `demands`), but for `number_of`, `failure_of`, `judged`, `reached_of`, `recorded_by`, `recorded_in`, of contracts alone.
-- Replay is that of `spec_trails`, over the machine of the tables: mechanism, held to the replay of the model by `demand2` (crate `demands`). Its answers, each by the case that it stands for, and
-- the verdicts of a trail by their numbers: assert 1, fault 2, finished 3, blocked 4, open 5. `t` are tables, `s` a state.
use Rattle.std.specs.Prelude.{ℕ, List, ℤ, eqb}
use Rattle.std.proofs.Math.Option.{Option, none, some}
use Rattle.base_bytes.specs.Choice.{pick}
use Rattle.base_outcome.specs.declared.Taken.{Taken}
use Rattle.base_outcome.specs.declared.Taken.TheVariants.{Done, Refuted, Faulted, Idle}
use Rattle.spec_machine.specs.Effect.{Outcome}
use Rattle.spec_machine.specs.Machine.{Step, advance, verdict}
use Rattle.spec_trails.specs.Replays as replays
use Rattle.spec_trails.specs.Replays.{standing, claimed, claim_by, accepted, refused, replay_from}
use Rattle.trail_form.specs.Forms.{Form, form, spoiled}
use Rattle.step_all.specs.Moving.{machine_in}
use Rattle.step_all.specs.declared.Verdict.{Verdict}
use Rattle.step_all.specs.declared.Verdict.TheVariants.{Finished, Blocked, Open}
use Rattle.step_entry.specs.Entries.{asked_in}
use Rattle.trail_replay.specs.declared.Replayed.{Replayed}
use Rattle.trail_replay.specs.declared.Replayed.TheVariants.{Accepted, Refused}

-- the answer, and the state that is left
abbrev pub Replay : Type 0
Replay = Replayed × List ℤ

-- accepted with the claimed verdict's number, or refused with a number at a line
abbrev pub replayed_as : ℕ → replays.Replayed → Replayed
replayed_as claim accepted = Accepted claim
replayed_as claim (refused x line) = Refused x line

abbrev pub told : ℕ → replays.Replayed × List ℤ → Replay
told claim r = (replayed_as claim r.0, r.1)

-- a whole trail from state s on, by its form
abbrev pub replay_in : List ℕ → Form → List ℤ → Replay
replay_in t (form steps claim) s = told claim (replay_from (machine_in t) (claim_by claim) steps 1 none s)
replay_in t (spoiled x line) s = (Refused x line, s)

-- ## what its parts answer, by numbers
abbrev pub number_of : Verdict → ℕ
number_of Finished = 3
number_of Blocked = 4
number_of Open = 5

-- how a recorded step failed, by the number of the verdict; 0 where it did not, 3 where there is no such step
abbrev pub failure_of : Taken → ℕ
failure_of Done = 0
failure_of Refuted = 1
failure_of (Faulted f) = 2
failure_of Idle = 3

unfoldable pub judged : ℕ → ℕ → ℕ → Replayed
judged claim reached line = pick (eqb claim reached) (Accepted claim) (Refused 12 line)

module _ (t : List ℕ) where
  -- behind a step that failed (1 or 2) that verdict, else (0) the state's
  unfoldable pub reached_of : ℕ → List ℤ → ℕ
  reached_of failed s = pick (eqb failed 0) (claimed (standing (verdict (machine_in t) s))) failed

  -- the recorded step is taken; idle where there is none
  abbrev pub recorded_by : Option Step → List ℤ → Outcome (List ℤ)
  recorded_by none s = (Idle, s)
  recorded_by (some x) s = advance (machine_in t) s x

  abbrev pub recorded_in : ℕ → ℕ → List ℤ → Outcome (List ℤ)
  recorded_in p k s = recorded_by (asked_in t s p k) s
