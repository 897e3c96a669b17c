-- Document 01, "How it moves": "`run` when a process and its channels still fit", "`v = run` stores 0 where nothing fits", "Arguments of a send or `run` are worked out only when there is
-- room for it", "a new one takes the next number. An ended one keeps its number for the whole run", "Verdicts: .. `finished` (all ended), `blocked`, `open` (some step offered)"; "Ceilings":
-- "processes 16; channels made 16". Computed.
use Rattle.std.specs.Prelude.{ℕ, ◌≡◌, refl, List, [], ◌∷◌, ◌++◌, replicate, pos}
use Rattle.base_values.specs.declared.Fault.TheVariants.{Divide, Index}
use Rattle.base_outcome.specs.declared.Taken.TheVariants.{Done, Faulted, Idle}
use Rattle.spec_grammar.specs.Tree.{action, Tree, plain, indexed, num, leaf, express, skip, timeout, run, set_run, unset, set_number, Declaration, group, Part, mtypes, global, Model}
use Rattle.spec_machine.specs.State.{Channel, Process, State}
use Rattle.spec_machine.specs.Begins.{initial}
use Rattle.spec_machine.specs.Machine.{finished, blocked, «open», offered, advance, verdict}
use Rattle.spec_machine.specs.Steps.{machine_of}
use Rattle.spec_machine.specs.Places.{start_of, end_of}
use Rattle.spec_machine.specs.ExamplesWords.{working, a, b, c, d, i, m, P, Q, x, y, bit, byte, int, faulty, scalar, array, channel, main, active, proctype, state, process_at, channel_of, one, offer, taken, only}

-- ## arguments by position, cast to the types of the parameters: `proctype P(byte a,b;int i){byte x=9;skip}init{run P(300,2,300)}`
abbrev callee : Part
callee = proctype P (group byte (a ∷ b ∷ []) ∷ group int (i ∷ []) ∷ []) (scalar byte x (set_number 9) ∷ []) (leaf skip ∷ [])

abbrev calls : Model
calls = callee ∷ main [] (leaf (run P (num 300 ∷ num 2 ∷ num 300 ∷ [])) ∷ []) ∷ []

arguments : taken calls 0 1 (initial calls)
    ≡ (Done, state [] (process_at 1 (end_of calls 1) [] ∷ process_at 0 (start_of calls 0) (one (pos 44) ∷ one (pos 2) ∷ one (pos 300) ∷ one (pos 9) ∷ []) ∷ []) [])
unfolding working
arguments = refl

-- ## `proctype P(){skip}proctype Q(){skip}init{byte y;S}`, where process 0 stands at S or behind it and others of P are ended
abbrev starter : Tree action → Model
starter s = proctype P [] [] (leaf skip ∷ []) ∷ proctype Q [] [] (leaf skip ∷ []) ∷ main (scalar byte y (set_number 7) ∷ []) (s ∷ []) ∷ []

-- process 0 at place j with this y, then these
abbrev crowd : ℕ → ℕ → List Process → State
crowd j v ps = state [] (process_at 2 j (one (pos v) ∷ []) ∷ ps) []

-- k processes of P, all ended: the end of P is place 4
abbrev ended : ℕ → List Process
ended k = replicate k (process_at 0 4 [])

-- the new one stands at its first statement: of P place 3, of Q place 8
by_name : (taken (starter (leaf (run P []))) 0 1 (initial (starter (leaf (run P [])))) ≡ (Done, crowd (end_of (starter (leaf (run P []))) 2) 7 (process_at 0 3 [] ∷ [])))
    × (taken (starter (leaf (run Q []))) 0 1 (initial (starter (leaf (run Q [])))) ≡ (Done, crowd (end_of (starter (leaf (run Q []))) 2) 7 (process_at 1 8 [] ∷ [])))
unfolding working
by_name = (refl, refl)

-- among units of other kinds: `mtype={m};byte x;init{run P()}proctype P(){skip}`: P is unit 3, from item 13 on, and stands at 16
abbrev among : Model
among = mtypes (m ∷ []) ∷ global (scalar byte x unset) ∷ main [] (leaf (run P []) ∷ []) ∷ proctype P [] [] (leaf skip ∷ []) ∷ []

fourth_unit : taken among 0 1 (initial among) ≡ (Done, state (one (pos 0) ∷ []) (process_at 2 12 [] ∷ process_at 3 16 [] ∷ []) [])
unfolding working
fourth_unit = refl

-- `y=run P()`: "a new one takes the next number", ended ones keep theirs
abbrev sets : Tree action
sets = leaf (set_run (plain y) P [])

next-number : (taken (starter sets) 0 1 (crowd (start_of (starter sets) 2) 7 []) ≡ (Done, crowd (end_of (starter sets) 2) 1 (process_at 0 3 [] ∷ [])))
    × (taken (starter sets) 0 1 (crowd (start_of (starter sets) 2) 7 (ended 2)) ≡ (Done, crowd (end_of (starter sets) 2) 3 (ended 2 ++ process_at 0 3 [] ∷ [])))
unfolding working
next-number = (refl, refl)

-- ## "processes 16": with 15 there is room for one more, with 16 there is none
-- `run` is then not executable, though all others are ended
run_fits : (taken (starter (leaf (run P []))) 0 1 (crowd (start_of (starter (leaf (run P []))) 2) 7 (ended 14)) ≡ (Done, crowd (end_of (starter (leaf (run P []))) 2) 7 (ended 14 ++ process_at 0 3 [] ∷ [])))
    × (offered (machine_of (starter (leaf (run P [])))) (crowd (start_of (starter (leaf (run P []))) 2) 7 (ended 15)) ≡ [])
    × (advance (machine_of (starter (leaf (run P [])))) (crowd (start_of (starter (leaf (run P []))) 2) 7 (ended 15)) (offer 0 1 (start_of (starter (leaf (run P []))) 2)) ≡ (Idle, crowd (start_of (starter (leaf (run P []))) 2) 7 (ended 15)))
unfolding working
run_fits = (refl, refl, refl)

-- `y = run P()` stores 15, and then 0
set-fits : (taken (starter sets) 0 1 (crowd (start_of (starter sets) 2) 7 (ended 14)) ≡ (Done, crowd (end_of (starter sets) 2) 15 (ended 14 ++ process_at 0 3 [] ∷ [])))
    × (taken (starter sets) 0 1 (crowd (start_of (starter sets) 2) 7 (ended 15)) ≡ (Done, crowd (end_of (starter sets) 2) 0 (ended 15)))
unfolding working
set-fits = (refl, refl)

-- the number is stored as any other: in a bit 2 is 0, as where nothing fits
abbrev in_bit : Model
in_bit = proctype P [] [] (leaf skip ∷ []) ∷ main (scalar bit y unset ∷ []) (sets ∷ []) ∷ []

stored_in_bit : taken in_bit 0 1 (state [] (process_at 1 (start_of in_bit 1) (one (pos 0) ∷ []) ∷ process_at 0 4 [] ∷ []) [])
    ≡ (Done, state [] (process_at 1 (end_of in_bit 1) (one (pos 0) ∷ []) ∷ process_at 0 4 [] ∷ process_at 0 3 [] ∷ []) [])
unfolding working
stored_in_bit = refl

-- ## arguments "are worked out only when there is room": `proctype P(int a){skip}init{byte b[2];S}`
abbrev faulting : Tree action → Model
faulting s = proctype P (group int (a ∷ []) ∷ []) [] (leaf skip ∷ []) ∷ main (array byte b 2 (set_number 7) ∷ []) (s ∷ []) ∷ []

-- process 0 at place j with these values of b, and k ended ones
abbrev bad : ℕ → ℕ → ℕ → State
bad j v k = state [] (process_at 1 j ((pos 7 ∷ pos v ∷ []) ∷ []) ∷ replicate k (process_at 0 8 (one (pos 0) ∷ []))) []

abbrev bad_run : Model
bad_run = faulting (leaf (run P (faulty ∷ [])))

-- `run P(1/0)`
run_order : (taken bad_run 0 1 (bad (start_of bad_run 1) 7 14) ≡ (Faulted Divide, bad (start_of bad_run 1) 7 14)) × (offered (machine_of bad_run) (bad (start_of bad_run 1) 7 15) ≡ [])
unfolding working
run_order = (refl, refl)

-- `b[1]=run P(1/0)` faults, or stores 0; the index of `b[2]=run P(1/0)` comes first, and is worked out in both cases
abbrev bad_set : ℕ → Model
bad_set k = faulting (leaf (set_run (indexed b (num k)) P (faulty ∷ [])))

set_order : (taken (bad_set 1) 0 1 (bad (start_of (bad_set 1) 1) 7 14) ≡ (Faulted Divide, bad (start_of (bad_set 1) 1) 7 14))
    × (taken (bad_set 1) 0 1 (bad (start_of (bad_set 1) 1) 7 15) ≡ (Done, bad (end_of (bad_set 1) 1) 0 15))
    × (taken (bad_set 2) 0 1 (bad (start_of (bad_set 2) 1) 7 14) ≡ (Faulted Index, bad (start_of (bad_set 2) 1) 7 14))
    × (taken (bad_set 2) 0 1 (bad (start_of (bad_set 2) 1) 7 15) ≡ (Faulted Index, bad (start_of (bad_set 2) 1) 7 15))
unfolding working
set_order = (refl, refl, refl, refl)

-- ## "channels made 16": `proctype P(){DECLARATIONS;skip}init{byte y;y=run P()}`, where k channels are made
abbrev maker : List Declaration → Model
maker ds = proctype P [] ds (leaf skip ∷ []) ∷ main (scalar byte y (set_number 7) ∷ []) (sets ∷ []) ∷ []

abbrev one_chan : List Declaration
one_chan = channel c 1 (byte ∷ []) ∷ []

abbrev two_chans : List Declaration
two_chans = channel c 1 (byte ∷ []) ∷ channel d 1 (byte ∷ []) ∷ []

abbrev made : ℕ → List Channel
made k = replicate k (channel_of 0 0 [])

abbrev with_made : ℕ → ℕ → List Process → List Channel → State
with_made j v ps cs = state [] (process_at 1 j (one (pos v) ∷ []) ∷ ps) cs

-- one more: 15 leave room for it, and it is number 16; 16 leave none
one-channel : (taken (maker one_chan) 0 1 (with_made (start_of (maker one_chan) 1) 7 [] (made 15))
    ≡ (Done, with_made (end_of (maker one_chan) 1) 1 (process_at 0 (start_of (maker one_chan) 0) (one (pos 16) ∷ []) ∷ []) (made 16)))
    × (taken (maker one_chan) 0 1 (with_made (start_of (maker one_chan) 1) 7 [] (made 16)) ≡ (Done, with_made (end_of (maker one_chan) 1) 0 [] (made 16)))
unfolding working
one-channel = (refl, refl)

-- two more: 14 leave room for both, 15 do not; and none more: 16 do not matter
two-channels : (taken (maker two_chans) 0 1 (with_made (start_of (maker two_chans) 1) 7 [] (made 14))
    ≡ (Done, with_made (end_of (maker two_chans) 1) 1 (process_at 0 (start_of (maker two_chans) 0) (one (pos 15) ∷ one (pos 16) ∷ []) ∷ []) (made 15 ++ channel_of 0 1 [] ∷ [])))
    × (taken (maker two_chans) 0 1 (with_made (start_of (maker two_chans) 1) 7 [] (made 15)) ≡ (Done, with_made (end_of (maker two_chans) 1) 0 [] (made 15)))
    × (taken (maker []) 0 1 (with_made (start_of (maker []) 1) 7 [] (made 16)) ≡ (Done, with_made (end_of (maker []) 1) 1 (process_at 0 (start_of (maker []) 0) [] ∷ []) (made 16)))
unfolding working
two-channels = (refl, refl, refl)

-- a plain `run P()` is not executable then
abbrev runner : Model
runner = proctype P [] one_chan (leaf skip ∷ []) ∷ main [] (leaf (run P []) ∷ []) ∷ []

abbrev runner_at : ℕ → List Process → ℕ → State
runner_at j ps k = state [] (process_at 1 j [] ∷ ps) (made k)

channel-fits : (taken runner 0 1 (runner_at (start_of runner 1) [] 15) ≡ (Done, runner_at (end_of runner 1) (process_at 0 (start_of runner 0) (one (pos 16) ∷ []) ∷ []) 16))
    × (offered (machine_of runner) (runner_at (start_of runner 1) [] 16) ≡ [])
unfolding working
channel-fits = (refl, refl)

-- an ended process keeps its channel, with what waits in it, and a new one makes its own: number 2
own_channel : taken (maker one_chan) 0 1 (with_made (start_of (maker one_chan) 1) 7 (process_at 0 (end_of (maker one_chan) 0) (one (pos 1) ∷ []) ∷ []) (channel_of 0 0 (one (pos 5) ∷ []) ∷ []))
    ≡ (
      Done,
      with_made (end_of (maker one_chan) 1) 2 (process_at 0 (end_of (maker one_chan) 0) (one (pos 1) ∷ []) ∷ process_at 0 (start_of (maker one_chan) 0) (one (pos 2) ∷ []) ∷ [])
          (channel_of 0 0 (one (pos 5) ∷ []) ∷ channel_of 0 0 [] ∷ []),
    )
unfolding working
own_channel = refl

-- ## verdicts: `active proctype P(){skip}active proctype Q(){0}`: P stands at 3 and ends at 4, Q stands at 8 and ends at 10
abbrev pair : Model
pair = active P [] (leaf skip ∷ []) ∷ active Q [] (leaf (express (num 0)) ∷ []) ∷ []

abbrev both_at : ℕ → ℕ → State
both_at j k = state [] (process_at 0 j [] ∷ process_at 1 k [] ∷ []) []

-- "`open` (some step offered)", "`blocked`", "`finished` (all ended)"; one that is ended is not all
verdicts : (verdict (machine_of pair) (both_at 3 8) ≡ «open») × (verdict (machine_of pair) (both_at 3 10) ≡ «open») × (verdict (machine_of pair) (both_at 4 8) ≡ blocked)
    × (verdict (machine_of pair) (both_at 4 10) ≡ finished)
unfolding working
verdicts = (refl, refl, refl, refl)

-- at the start of `init{S}`: a test that faults is a step, and so is a `timeout` where nothing else is
starts_as : (verdict (machine_of (only [] (leaf skip))) (initial (only [] (leaf skip))) ≡ «open») × (verdict (machine_of (only [] (leaf (express faulty)))) (initial (only [] (leaf (express faulty)))) ≡ «open»)
    × (verdict (machine_of (only [] (leaf timeout))) (initial (only [] (leaf timeout))) ≡ «open») × (verdict (machine_of (only [] (leaf (express (num 0))))) (initial (only [] (leaf (express (num 0))))) ≡ blocked)
unfolding working
starts_as = (refl, refl, refl, refl)
