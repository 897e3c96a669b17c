-- Document 01, "How it moves": "From the lent state the automatic run takes first offered steps until none is, one fails or an unsigned limit is met; the count it reports is the number of
-- steps taken, a failing one included", "After a failing step its run has no further turn, and only its own verdict holds". Runs on both sides of each, computed.
use Rattle.std.specs.Prelude.{ℕ, ◌≡◌, refl, [], ◌∷◌, pos}
use Rattle.base_values.specs.declared.Fault.TheVariants.{Divide}
use Rattle.spec_grammar.specs.Tree.{action, Tree, plain, num, leaf, express, assign, assert, skip, timeout, unset, Model}
use Rattle.spec_machine.specs.State.{State}
use Rattle.spec_machine.specs.Begins.{initial}
use Rattle.spec_machine.specs.Machine.{finished, blocked, «open»}
use Rattle.spec_machine.specs.Steps.{machine_of}
use Rattle.spec_machine.specs.ExamplesWords.{working, P, Q, x, int, faulty, either, again, scalar, main, active, state, process_at, one}
use Rattle.spec_trails.specs.Runs.{Ending, stood, refuted, faulted, Ran, run_from}

abbrev ran : Ending → ℕ → State → Ran State
ran e k σ = record { ending = e; count = k; state = σ }

-- ## `init{skip;skip;skip}`: 2, 3, 4, the end 5
abbrev three : Model
three = main [] (leaf skip ∷ leaf skip ∷ leaf skip ∷ []) ∷ []

abbrev at : ℕ → State
at j = state [] (process_at 0 j [] ∷ []) []

-- limits of 0, 1, one less than all, all, one more
limits : (run_from (machine_of three) 0 (at 2) ≡ ran (stood «open») 0 (at 2)) × (run_from (machine_of three) 1 (at 2) ≡ ran (stood «open») 1 (at 3))
    × (run_from (machine_of three) 2 (at 2) ≡ ran (stood «open») 2 (at 4)) × (run_from (machine_of three) 3 (at 2) ≡ ran (stood finished) 3 (at 5))
    × (run_from (machine_of three) 4 (at 2) ≡ ran (stood finished) 3 (at 5))
unfolding working run_from
limits = (refl, refl, refl, refl, refl)

-- "From the lent state": one further on, and the last
lent : (run_from (machine_of three) 9 (at 4) ≡ ran (stood finished) 1 (at 5)) × (run_from (machine_of three) 9 (at 5) ≡ ran (stood finished) 0 (at 5))
unfolding working run_from
lent = (refl, refl)

-- ## `init{int x;x=1;S;x=3}`: 6, S 11
abbrev tries : Tree action → Model
tries s = main (scalar int x unset ∷ []) (leaf (assign (plain x) (num 1)) ∷ s ∷ leaf (assign (plain x) (num 3)) ∷ []) ∷ []

abbrev with_x : ℕ → ℕ → State
with_x j v = state [] (process_at 0 j (one (pos v) ∷ []) ∷ []) []

-- S is `assert(0)`: the failing step is counted, and changes nothing; a limit of 1 does not reach it; `assert(1)` goes on
asserted : (run_from (machine_of (tries (leaf (assert (num 0))))) 9 (with_x 6 0) ≡ ran refuted 2 (with_x 11 1)) × (run_from (machine_of (tries (leaf (assert (num 0))))) 2 (with_x 6 0) ≡ ran refuted 2 (with_x 11 1))
    × (run_from (machine_of (tries (leaf (assert (num 0))))) 1 (with_x 6 0) ≡ ran (stood «open») 1 (with_x 11 1))
    × (run_from (machine_of (tries (leaf (assert (num 1))))) 9 (with_x 6 0) ≡ ran (stood finished) 3 (with_x 18 3))
unfolding working run_from
asserted = (refl, refl, refl, refl)

-- S is `1/0`, a fault; S is `0`, which blocks
faults_and_blocks : (run_from (machine_of (tries (leaf (express faulty)))) 9 (with_x 6 0) ≡ ran (faulted Divide) 2 (with_x 11 1))
    × (run_from (machine_of (tries (leaf (express (num 0))))) 9 (with_x 6 0) ≡ ran (stood blocked) 1 (with_x 11 1)) × (run_from (machine_of (tries (leaf (express (num 0))))) 0 (with_x 11 1) ≡ ran (stood blocked) 0 (with_x 11 1))
unfolding working run_from
faults_and_blocks = (refl, refl, refl)

-- ## "takes first offered steps": `init{int x;if::x=1::x=2 fi}` takes the first option
abbrev chooses : Model
chooses = main (scalar int x unset ∷ []) (either ((leaf (assign (plain x) (num 1)) ∷ []) ∷ (leaf (assign (plain x) (num 2)) ∷ []) ∷ []) ∷ []) ∷ []

first_option : run_from (machine_of chooses) 9 (initial chooses) ≡ ran (stood finished) 1 (with_x 22 1)
unfolding working run_from
first_option = refl

-- `active proctype P(){skip;0}active proctype Q(){timeout}`: P at 3, then at its `0`, 4, where it waits; Q at 10 and ended at 11, by its `timeout` when nothing else is executable
abbrev waits : Model
waits = active P [] (leaf skip ∷ leaf (express (num 0)) ∷ []) ∷ active Q [] (leaf timeout ∷ []) ∷ []

first-process : (run_from (machine_of waits) 1 (initial waits) ≡ ran (stood «open») 1 (state [] (process_at 0 4 [] ∷ process_at 1 10 [] ∷ []) []))
    × (run_from (machine_of waits) 9 (initial waits) ≡ ran (stood blocked) 2 (state [] (process_at 0 4 [] ∷ process_at 1 11 [] ∷ []) []))
unfolding working run_from
first-process = (refl, refl)

-- `init{do::skip od}` ends by the limit alone
endless : run_from (machine_of (main [] (again ((leaf skip ∷ []) ∷ []) ∷ []) ∷ [])) 20 (at 2) ≡ ran (stood «open») 20 (at 2)
unfolding working run_from
endless = refl
