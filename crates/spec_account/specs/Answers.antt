-- THE LAST LINE OF EACH COMMAND, its answer.
use Rattle.std.specs.Prelude.{ℕ, ◌-◌, List, [], ◌∷◌, ◌++◌, get_or}
use Rattle.base_kinds.specs.Kinds.{bytes}
use Rattle.spec_text.specs.Formats.{digits_of}
use Rattle.spec_machine.specs.Machine.{Verdict, finished, blocked, «open»}
use Rattle.spec_trails.specs.Trails.{verdicts}
use Rattle.spec_trails.specs.Runs.{Ending, stood, refuted, faulted}
use Rattle.spec_account.specs.Bytes.{each_escaped}

-- a text that is refused with number x; its part begins at place i and has n bytes
unfoldable pub refused_line : ℕ → ℕ → ℕ → List ℕ
refused_line x i n = bytes "refused " ++ (digits_of x ++ (32 ∷ (digits_of i ++ (32 ∷ (digits_of n ++ 10 ∷ [])))))

-- a state in which n steps are offered
abbrev pub verdict_line : Verdict → ℕ → List ℕ
verdict_line finished n = bytes "finished\n"
verdict_line blocked n = bytes "blocked\n"
verdict_line «open» n = bytes "open " ++ (digits_of n ++ 10 ∷ [])

abbrev pub ending_word : Ending → List ℕ
ending_word (stood finished) = bytes "finished"
ending_word (stood blocked) = bytes "blocked"
ending_word (stood «open») = bytes "open"
ending_word refuted = bytes "assert"
ending_word (faulted f) = bytes "fault"

-- a run of n steps
abbrev pub ran_line : Ending → ℕ → List ℕ
ran_line e n = ending_word e ++ (32 ∷ (digits_of n ++ 10 ∷ []))

-- a trail that is accepted with the verdict of this number, or refused with number x at a line
unfoldable pub accepted_line : ℕ → List ℕ
accepted_line v = bytes "accepted " ++ (get_or verdicts (v - 1) [] ++ 10 ∷ [])

unfoldable pub stopped_line : ℕ → ℕ → List ℕ
stopped_line x line = bytes "refused " ++ (digits_of x ++ (32 ∷ (digits_of line ++ 10 ∷ [])))

-- an error: its words, and what it speaks of, as it is shown
abbrev pub error_line : List ℕ → List ℕ → List ℕ
error_line words name = words ++ (each_escaped name ++ 10 ∷ [])

-- the heading of command n of a list, which is told by its line
abbrev pub heading_line : ℕ → List ℕ → List ℕ
heading_line n line = bytes "== " ++ (digits_of n ++ (32 ∷ (each_escaped line ++ 10 ∷ [])))

-- the status of an answer, as who started the program is told it
abbrev pub status_line : ℕ → List ℕ
status_line x = bytes "status" ++ (32 ∷ (digits_of x ++ 10 ∷ []))
