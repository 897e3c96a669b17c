-- Mechanism, held to the specification by `demand2` (crate `demands`), but for `ending_of` and `turn_in`, of contracts alone.
-- The automatic run is that of `spec_trails`, over the machine of the tables: mechanism, held to the run of the model by `demand2` (crate `demands`). Its answers, each by the case that it stands
-- for. `t` are tables, `s` a state.
use Rattle.std.specs.Prelude.{List, ℕ, ℤ}
use Rattle.spec_machine.specs.Effect.{Outcome}
use Rattle.spec_machine.specs.Machine.{finished, blocked, «open», offered}
use Rattle.spec_trails.specs.Runs as runs
use Rattle.spec_trails.specs.Runs.{stood, refuted, faulted, first_taken, run_from}
use Rattle.step_all.specs.Moving.{machine_in}
use Rattle.step_all.specs.declared.Verdict.{Verdict}
use Rattle.step_all.specs.declared.Verdict.TheVariants as verdict
use Rattle.run_entry.specs.declared.Ending.{Ending}
use Rattle.run_entry.specs.declared.Ending.TheVariants.{Finished, Blocked, Open, Assert, Fault}
use Rattle.run_entry.specs.declared.Ran.{Ran}
use Rattle.run_entry.specs.declared.Ran.TheVariants.{Ended}

-- "`assert`, `fault`, `finished`, `blocked`, `open`": how a run ends
abbrev pub ending_as : runs.Ending → Ending
ending_as (stood finished) = Finished
ending_as (stood blocked) = Blocked
ending_as (stood «open») = Open
ending_as refuted = Assert
ending_as (faulted f) = Fault f

-- how a run ends that goes no further in a state with that verdict
abbrev pub ending_of : Verdict → Ending
ending_of verdict.Finished = Finished
ending_of verdict.Blocked = Blocked
ending_of verdict.Open = Open

-- the answer, and what is left in the lent state
abbrev pub shown : runs.Ran (List ℤ) → Ran × List ℤ
shown r = (Ended (ending_as r.ending) r.count, r.state)

-- "takes first offered steps": what comes of the first, and the state after it; idle where none is offered
abbrev pub turn_in : List ℕ → List ℤ → Outcome (List ℤ)
turn_in t s = first_taken (machine_in t) s (offered (machine_in t) s)

-- "until none is, one fails or an unsigned limit is met"
abbrev pub run_in : List ℕ → ℕ → List ℤ → runs.Ran (List ℤ)
run_in t limit s = run_from (machine_in t) limit s
