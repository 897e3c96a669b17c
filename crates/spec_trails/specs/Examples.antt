-- Document 01, "the count it reports is the number of steps taken", and "Trail lines": "A step after a failed assertion or fault is 11". Worked examples, computed: the run of two processes
-- with a channel (specs/Examples.antt of `spec_machine`), and trails of it and of `init{assert(0)}`.
use Rattle.std.specs.Prelude.{ℕ, ◌≡◌, refl, List, [], ◌∷◌, ℤ, pos}
use Rattle.std.proofs.Math.Option.{none}
use Rattle.spec_grammar.specs.Tree.{num, leaf, assert, bare, end, then, body, init, Model}
use Rattle.base_kinds.specs.Kinds.{bytes}
use Rattle.spec_text.specs.Formats.{digits_by}
use Rattle.spec_machine.specs.Begins.{initial}
use Rattle.spec_machine.specs.Machine.{finished, blocked, asked}
use Rattle.spec_machine.specs.Steps.{machine_of}
use Rattle.spec_machine.specs.Examples.{machine, two, state}
use Rattle.spec_trails.specs.Runs.{stood, refuted, run_from}
use Rattle.spec_trails.specs.Replays.{Claim, assertion, standing, claimed, accepted, refused, replay_from}
use Rattle.spec_trails.specs.Trails.{Recorded, trail_of}

-- the run takes both steps
two_run : run_from (machine_of two) 9 (initial two) ≡ record { ending = stood finished; count = 2; state = state 17 32 (pos 44) [] }
unfolding machine run_from
two_run = refl

-- `S`, process 0, its first step; then that of process 1
abbrev both : List Recorded
both = record { process = 0; choice = 1 } ∷ record { process = 1; choice = 1 } ∷ []

two_accepted : replay_from (machine_of two) (standing finished) both 1 none (initial two) ≡ (accepted, state 17 32 (pos 44) [])
unfolding machine asked replay_from
two_accepted = refl

-- another verdict is 12 at the last line, a step that is not offered 11 at its own; the state is the one before it
two-claimed : replay_from (machine_of two) (standing blocked) both 1 none (initial two) ≡ (refused 12 3, state 17 32 (pos 44) [])
unfolding machine asked replay_from
two-claimed = refl

two_strayed : replay_from (machine_of two) (standing finished) (record { process = 0; choice = 1 } ∷ record { process = 0; choice = 1 } ∷ []) 1 none (initial two) ≡ (refused 11 2, state 17 25 (pos 0) ((pos 44 ∷ []) ∷ []))
unfolding machine asked replay_from
two_strayed = refl

-- ## `init{assert(0)}`
abbrev failing : Model
failing = init (body [] (then (bare (leaf (assert (num 0)))) end)) ∷ []

-- a failing step counts, and changes nothing
failing-run : run_from (machine_of failing) 9 (initial failing) ≡ record { ending = refuted; count = 1; state = initial failing }
unfolding machine run_from
failing-run = refl

abbrev once : List Recorded
once = record { process = 0; choice = 1 } ∷ []

failing_accepted : replay_from (machine_of failing) assertion once 1 none (initial failing) ≡ (accepted, initial failing)
unfolding machine asked replay_from
failing_accepted = refl

failing_goes_on : replay_from (machine_of failing) assertion (record { process = 0; choice = 1 } ∷ once) 1 none (initial failing) ≡ (refused 11 2, initial failing)
unfolding machine asked replay_from
failing_goes_on = refl

-- "Whole trail for `init{assert(0)}`"
failing-written : trail_of once (claimed assertion) ≡ bytes "S\t0\t1\nV\tassert\n"
unfolding trail_of digits_by
failing-written = refl
