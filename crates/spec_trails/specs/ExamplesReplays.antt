-- Document 01, "Trail lines": "`S`, process, k (its k-th offered step, from 1); last, once, `V` and a verdict. .. A step after a failed assertion or fault is 11", rows 11 and 12: "trail step
-- .. not offered", at its line, "trail's claimed verdict is not the one reached", at the last line, and "replay's 11 and 12 leave the state reached before the refused record"; "To shut out:
-- .. a replay that judges on line one and skims the rest". Replays, and the texts of trails, computed.
use Rattle.std.specs.Prelude.{ℕ, ◌≡◌, refl, List, [], ◌∷◌, pos}
use Rattle.std.proofs.Math.Option.{none}
use Rattle.base_kinds.specs.Kinds.{bytes}
use Rattle.spec_grammar.specs.Tree.{plain, num, leaf, express, assign, assert, unset, Model}
use Rattle.spec_machine.specs.State.{State}
use Rattle.spec_machine.specs.Begins.{initial}
use Rattle.spec_machine.specs.Machine.{finished, blocked, «open»}
use Rattle.spec_machine.specs.Steps.{machine_of}
use Rattle.spec_machine.specs.ExamplesWords.{working, P, Q, x, int, faulty, sum, of, either, scalar, main, active, state, process_at, one}
use Rattle.spec_trails.specs.Replays.{Claim, assertion, fault, standing, claimed, Replayed, accepted, refused, replay_from}
use Rattle.spec_trails.specs.Trails.{Recorded, trail_of}

-- `S`, process, k
abbrev S : ℕ → ℕ → Recorded
S p k = record { process = p; choice = k }

-- a whole trail, from its first line
abbrev replay : Model → Claim → List Recorded → State → Replayed × State
replay t v l σ = replay_from (machine_of t) v l 1 none σ

-- ## `init{int x;if::x=1::x=2 fi;if::x=x+10::x=x+20 fi}`: the first `if` 6, the second 22, the end 44
abbrev twice : Model
twice =
    main (scalar int x unset ∷ [])
    (either ((leaf (assign (plain x) (num 1)) ∷ []) ∷ (leaf (assign (plain x) (num 2)) ∷ []) ∷ []) ∷ either ((leaf (assign (plain x) (sum (of x) (num 10))) ∷ []) ∷ (leaf (assign (plain x) (sum (of x) (num 20))) ∷ []) ∷ []) ∷ []) ∷ []

abbrev with_x : ℕ → ℕ → State
with_x j v = state [] (process_at 0 j (one (pos v) ∷ []) ∷ []) []

-- each step in its turn: the second option and then the first, and the other way round
in_turn : (replay twice (standing finished) (S 0 2 ∷ S 0 1 ∷ []) (initial twice) ≡ (accepted, with_x 44 12)) × (replay twice (standing finished) (S 0 1 ∷ S 0 2 ∷ []) (initial twice) ≡ (accepted, with_x 44 21))
unfolding working replay_from
in_turn = (refl, refl)

-- 11 at its own line: no third option, k is 0, no process 1; in the first line and in the second; behind the end
not_offered : (replay twice (standing finished) (S 0 3 ∷ S 0 1 ∷ []) (initial twice) ≡ (refused 11 1, with_x 6 0)) × (replay twice (standing finished) (S 0 0 ∷ []) (initial twice) ≡ (refused 11 1, with_x 6 0))
    × (replay twice (standing finished) (S 1 1 ∷ []) (initial twice) ≡ (refused 11 1, with_x 6 0)) × (replay twice (standing finished) (S 0 2 ∷ S 0 3 ∷ []) (initial twice) ≡ (refused 11 2, with_x 22 2))
    × (replay twice (standing finished) (S 0 2 ∷ S 0 2 ∷ S 0 1 ∷ []) (initial twice) ≡ (refused 11 3, with_x 44 22))
unfolding working replay_from
not_offered = (refl, refl, refl, refl, refl)

-- the state is the one before the refused record, though the next one is offered there
state-before : replay twice (standing finished) (S 0 2 ∷ S 0 3 ∷ S 0 1 ∷ []) (initial twice) ≡ (refused 11 2, with_x 22 2)
unfolding working replay_from
state-before = refl

-- 12 at the last line: open after one step, finished after two; the state is the one reached
claims : (replay twice (standing «open») (S 0 2 ∷ []) (initial twice) ≡ (accepted, with_x 22 2)) × (replay twice (standing finished) (S 0 2 ∷ []) (initial twice) ≡ (refused 12 2, with_x 22 2))
    × (replay twice (standing «open») (S 0 2 ∷ S 0 1 ∷ []) (initial twice) ≡ (refused 12 3, with_x 44 12)) × (replay twice assertion (S 0 2 ∷ S 0 1 ∷ []) (initial twice) ≡ (refused 12 3, with_x 44 12))
    × (replay twice fault (S 0 2 ∷ S 0 1 ∷ []) (initial twice) ≡ (refused 12 3, with_x 44 12))
unfolding working replay_from
claims = (refl, refl, refl, refl, refl)

-- "its k-th offered step": of process 1 alone, though process 0 has steps too; `active proctype P(){if::1::1 fi}active proctype Q(){if::1;0::1 fi}`: 3 and 17, the second option of Q ends it at 29
abbrev pair : Model
pair = active P [] (either ((leaf (express (num 1)) ∷ []) ∷ (leaf (express (num 1)) ∷ []) ∷ []) ∷ []) ∷ active Q [] (either ((leaf (express (num 1)) ∷ leaf (express (num 0)) ∷ []) ∷ (leaf (express (num 1)) ∷ []) ∷ []) ∷ []) ∷ []

abbrev pair_at : ℕ → ℕ → State
pair_at j k = state [] (process_at 0 j [] ∷ process_at 1 k [] ∷ []) []

own_steps : (replay pair (standing «open») (S 1 2 ∷ []) (initial pair) ≡ (accepted, pair_at 3 29)) × (replay pair (standing «open») (S 1 1 ∷ []) (initial pair) ≡ (accepted, pair_at 3 21))
    × (replay pair (standing «open») (S 1 3 ∷ []) (initial pair) ≡ (refused 11 1, pair_at 3 17))
unfolding working replay_from
own_steps = (refl, refl, refl)

-- no step at all: `V` is the first line; `init{0}` is blocked at once
abbrev zero : Model
zero = main [] (leaf (express (num 0)) ∷ []) ∷ []

no_steps : (replay zero (standing blocked) [] (initial zero) ≡ (accepted, initial zero)) × (replay zero (standing finished) [] (initial zero) ≡ (refused 12 1, initial zero))
    × (replay zero (standing blocked) (S 0 1 ∷ []) (initial zero) ≡ (refused 11 1, initial zero))
unfolding working replay_from
no_steps = (refl, refl, refl)

-- ## `init{int x;x=1;assert(0);x=3}` and `init{int x;x=1;1/0;x=3}`: the second statement at 11 fails
abbrev asserts : Model
asserts = main (scalar int x unset ∷ []) (leaf (assign (plain x) (num 1)) ∷ leaf (assert (num 0)) ∷ leaf (assign (plain x) (num 3)) ∷ []) ∷ []

abbrev divides : Model
divides = main (scalar int x unset ∷ []) (leaf (assign (plain x) (num 1)) ∷ leaf (express faulty) ∷ leaf (assign (plain x) (num 3)) ∷ []) ∷ []

-- "only its own verdict holds": not the other, and not that of the state, which is open
own_verdict : (replay asserts assertion (S 0 1 ∷ S 0 1 ∷ []) (initial asserts) ≡ (accepted, with_x 11 1)) × (replay asserts fault (S 0 1 ∷ S 0 1 ∷ []) (initial asserts) ≡ (refused 12 3, with_x 11 1))
    × (replay asserts (standing «open») (S 0 1 ∷ S 0 1 ∷ []) (initial asserts) ≡ (refused 12 3, with_x 11 1)) × (replay divides fault (S 0 1 ∷ S 0 1 ∷ []) (initial divides) ≡ (accepted, with_x 11 1))
    × (replay divides assertion (S 0 1 ∷ S 0 1 ∷ []) (initial divides) ≡ (refused 12 3, with_x 11 1))
unfolding working replay_from
own_verdict = (refl, refl, refl, refl, refl)

-- before it fails the verdict is that of the state
before_it : (replay asserts (standing «open») (S 0 1 ∷ []) (initial asserts) ≡ (accepted, with_x 11 1)) × (replay asserts assertion (S 0 1 ∷ []) (initial asserts) ≡ (refused 12 2, with_x 11 1))
unfolding working replay_from
before_it = (refl, refl)

-- "A step after a failed assertion or fault is 11", whatever is claimed
after_it : (replay asserts assertion (S 0 1 ∷ S 0 1 ∷ S 0 1 ∷ []) (initial asserts) ≡ (refused 11 3, with_x 11 1))
    × (replay divides (standing «open») (S 0 1 ∷ S 0 1 ∷ S 0 1 ∷ []) (initial divides) ≡ (refused 11 3, with_x 11 1))
unfolding working replay_from
after_it = (refl, refl)

-- ## texts: numbers of one and more digits, and the word of each verdict
texts : (trail_of (S 0 10 ∷ S 15 12345 ∷ []) (claimed (standing finished)) ≡ bytes "S\t0\t10\nS\t15\t12345\nV\tfinished\n") × (trail_of [] (claimed fault) ≡ bytes "V\tfault\n")
    × (trail_of [] (claimed (standing blocked)) ≡ bytes "V\tblocked\n") × (trail_of [] (claimed (standing «open»)) ≡ bytes "V\topen\n")
unfolding working trail_of
texts = (refl, refl, refl, refl)
