-- Program: held by stored output and by `tests/program` beyond what its contracts say.
-- THE STATUS OF A COMMAND on an accepted model: that of its answer (`show_statuses`). `ts` are the model's tables; the program's state is lent as zeros.
use Rattle.std.specs.Prelude.{ℕ, List, replicate, ℤ, pos}
use Rattle.base_ceilings.specs.Ceilings.{state_room}
use Rattle.read_genuine.specs.Genuine.{written}
use Rattle.state_start.specs.Starting.{initial_of}
use Rattle.spec_machine.specs.Machine as machine
use Rattle.step_all.specs.Moving.{machine_in, verdict_as}
use Rattle.step_all.specs.declared.Verdict.{Verdict}
use Rattle.step_all.specs.declared.Verdict.TheVariants as verdict
use Rattle.run_entry.specs.Runs.{shown, run_in}
use Rattle.run_entry.specs.declared.Ending.{Ending}
use Rattle.run_entry.specs.declared.Ending.TheVariants as ending
use Rattle.run_entry.specs.declared.Ran.{Ran}
use Rattle.run_entry.specs.declared.Ran.TheVariants as ran
use Rattle.trail_replay.specs.Entries.{replayed_of}
use Rattle.trail_replay.specs.declared.Replayed.{Replayed}
use Rattle.trail_replay.specs.declared.Replayed.TheVariants as replayed
use Rattle.show_statuses.specs.declared.Status.{Status}
use Rattle.show_statuses.specs.declared.Answer.TheVariants as answer
use Rattle.show_statuses.specs.Statuses.{status_of}

abbrev pub verdict_status : Verdict → Status
verdict_status verdict.Finished = status_of answer.Finished
verdict_status verdict.Blocked = status_of answer.Blocked
verdict_status verdict.Open = status_of answer.Open

abbrev pub ending_status : Ending → Status
ending_status ending.Finished = status_of answer.Finished
ending_status ending.Blocked = status_of answer.Blocked
ending_status ending.Open = status_of answer.Open
ending_status ending.Assert = status_of answer.Assert
ending_status (ending.Fault f) = status_of answer.Fault

abbrev pub ran_status : Ran → Status
ran_status (ran.Ended e n) = ending_status e
ran_status (ran.Refused x) = status_of answer.Error

abbrev pub replayed_status : Replayed → Status
replayed_status (replayed.Accepted v) = status_of answer.Accepted
replayed_status (replayed.Refused x line) = status_of answer.Refused

unfoldable pub cleared : List ℤ
cleared = replicate state_room (pos 0)

unfoldable pub start_status : List ℕ → Status
start_status ts = verdict_status (verdict_as (machine.verdict (machine_in (written ts)) (initial_of (written ts) cleared)))

unfoldable pub run_status : List ℕ → ℕ → Status
run_status ts limit = ran_status (shown (run_in (written ts) limit (initial_of (written ts) cleared))).0

unfoldable pub replay_status : List ℕ → List ℕ → Status
replay_status ts trail = replayed_status (replayed_of ts trail cleared).0
