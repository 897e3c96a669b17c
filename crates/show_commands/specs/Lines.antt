-- The last line of a command on an accepted model, by the answer that the entry gives: the lines are those of `spec_account` (specs/Answers.antt), and here is which answer has which.
use Rattle.std.specs.Prelude.{ℕ, List}
use Rattle.base_kinds.specs.Kinds.{bytes}
use Rattle.spec_machine.specs.Machine.{finished, blocked, «open»}
use Rattle.spec_trails.specs.Runs as runs
use Rattle.spec_account.specs.Answers.{verdict_line, ran_line, accepted_line, stopped_line}
use Rattle.step_all.specs.declared.Verdict.{Verdict}
use Rattle.step_all.specs.declared.Verdict.TheVariants as verdict
use Rattle.run_entry.specs.declared.Ending.{Ending}
use Rattle.run_entry.specs.declared.Ending.TheVariants as ending
use Rattle.run_entry.specs.declared.Ran.{Ran}
use Rattle.run_entry.specs.declared.Ran.TheVariants as ran
use Rattle.trail_replay.specs.declared.Replayed.{Replayed}
use Rattle.trail_replay.specs.declared.Replayed.TheVariants as replayed

-- a state in which n steps are offered
abbrev pub verdict_text : Verdict → ℕ → List ℕ
verdict_text verdict.Finished n = verdict_line finished n
verdict_text verdict.Blocked n = verdict_line blocked n
verdict_text verdict.Open n = verdict_line «open» n

-- a run of n steps
abbrev pub ending_text : Ending → ℕ → List ℕ
ending_text ending.Finished n = ran_line (runs.stood finished) n
ending_text ending.Blocked n = ran_line (runs.stood blocked) n
ending_text ending.Open n = ran_line (runs.stood «open») n
ending_text ending.Assert n = ran_line runs.refuted n
ending_text (ending.Fault f) n = ran_line (runs.faulted f) n

abbrev pub ran_text : Ran → List ℕ
ran_text (ran.Ended e n) = ending_text e n
ran_text (ran.Refused x) = bytes "error: the run was refused\n"

abbrev pub replayed_text : Replayed → List ℕ
replayed_text (replayed.Accepted v) = accepted_line v
replayed_text (replayed.Refused x line) = stopped_line x line
