-- Worked examples: a trail of two processes with a channel (specs/Examples.antt of `spec_machine`), told step by step, with a message and a store as they are after the cast, and its states; a record that is not
-- offered, of a process that there is and of one that there is not; a step behind one that failed; an element of an array, a process that starts, and one that does not for want of room; a receive that stores twice in
-- one variable.
use Rattle.std.specs.Prelude.{ℕ, ◌≡◌, refl, true, false, List, [], ◌∷◌, replicate, ℤ, pos, negsuc}
use Rattle.std.proofs.Math.Option.{none, some}
use Rattle.base_bytes.specs.Lists.{same}
use Rattle.base_kinds.specs.Kinds.{bytes}
use Rattle.base_outcome.specs.declared.Partner.TheVariants.{Nobody}
use Rattle.spec_text.specs.Find.{find}
use Rattle.spec_text.specs.Formats.{digits_by}
use Rattle.spec_text.specs.Writing.{write_behind}
use Rattle.spec_grammar.specs.Marks.{k_bang, k_ask}
use Rattle.spec_grammar.specs.Tree.{Name, plain, indexed, num, into, exactly, leaf, assign, send, receive, assert, skip, set_run, bare, end, then, unset, set_channel, variable, declare, group, body, idle, process, init, Model}
use Rattle.spec_machine.specs.State.{Process, State}
use Rattle.spec_machine.specs.Begins.{initial}
use Rattle.spec_machine.specs.Machine.{Step, asked, advance}
use Rattle.spec_machine.specs.Steps.{machine_of}
use Rattle.spec_machine.specs.Examples.{machine, two, state}
use Rattle.spec_trails.specs.Trails.{Recorded}
use Rattle.spec_account.specs.Bytes.{each_visible, visible, is_visible}
use Rattle.spec_account.specs.Statements.{from_in, from_unit}
use Rattle.spec_account.specs.Deeds.{deeds, delivered_all}
use Rattle.spec_account.specs.States.{values_text, further_text, messages_text, variables_text, processes_text, channels_text, state_text}
use Rattle.spec_account.specs.Steps.{deeds_by, outcome_text, others_text, trail_text}

-- to unfold this is to unfold all that the examples compute with, beside the machine
unfoldable shows : Unit {0}
unfolding asked same find write_behind digits_by each_visible visible is_visible from_in from_unit deeds delivered_all values_text further_text messages_text variables_text processes_text channels_text state_text deeds_by others_text trail_text
shows = tt

abbrev record_of : ℕ → ℕ → Recorded
record_of p k = record { process = p; choice = k }

-- ## `chan c=[1]of{byte}active proctype A(){c!300}active proctype B(){int x;c?x}`
told : trail_text two (record_of 0 1 ∷ record_of 1 1 ∷ []) 1 false (initial two) ≡ bytes "1\t0\t1\tA\t38\tc!300\n\tsent 1 (44)\n2\t1\t1\tB\t70\tc?x\n\treceived 1 (44)\n\tstored x 44\n"
unfolding machine shows
told = refl

not_offered : (trail_text two (record_of 1 1 ∷ []) 1 false (initial two) ≡ bytes "1\t1\t1\tnot offered\n  process 1 was offered instead:\n    nothing\n")
    × (trail_text two (record_of 0 2 ∷ []) 1 false (initial two) ≡ bytes "1\t0\t2\tnot offered\n  process 0 was offered instead:\n    1\tc!300\n")
    × (trail_text two (record_of 2 1 ∷ record_of 0 1 ∷ []) 1 false (initial two) ≡ bytes "1\t2\t1\tnot offered\n  there is no process 2\n")
unfolding machine shows
not_offered = (refl, refl, refl)

states : (state_text two (initial two) ≡ bytes "global c 1\nprocess 0 A at c!300\nprocess 1 B at c?x\nlocal x 0\nchannel 1 1\n")
    × (state_text two (state 17 25 (negsuc 1) ((pos 44 ∷ []) ∷ [])) ≡ bytes "global c 1\nprocess 0 A ended\nprocess 1 B at c?x\nlocal x -2\nchannel 1 1 (44)\n")
unfolding machine shows
states = (refl, refl)

-- ## `init{assert(0)}`
abbrev fails : Model
fails = init (body [] (then (bare (leaf (assert (num 0)))) end)) ∷ []

failed : trail_text fails (record_of 0 1 ∷ record_of 0 1 ∷ []) 1 false (initial fails) ≡ bytes "1\t0\t1\tinit\t5\tassert(0)\n\tassert: the assertion is 0\n2\t0\t1\tnot offered\n  the step before failed, and nothing follows it\n"
unfolding machine shows
failed = refl

-- ## `proctype Q(byte b){skip}init{byte a[2];a[1]=300;a[0]=run Q(7)}`
abbrev starts : Model
starts =
    process idle (bytes "Q") (group 40 (bytes "b" ∷ []) ∷ []) (body [] (then (bare (leaf skip)) end)) ∷
    init (body (declare 40 (variable (bytes "a") (some 2) unset ∷ []) ∷ [])
    (then (bare (leaf (assign (indexed (bytes "a") (num 1)) (num 300)))) (then (bare (leaf (set_run (indexed (bytes "a") (num 0)) (bytes "Q") (num 7 ∷ [])))) end))) ∷ []

started : trail_text starts (record_of 0 1 ∷ record_of 0 1 ∷ []) 1 false (initial starts) ≡ bytes "1\t0\t1\tinit\t39\ta[1]=300\n\tstored a[1] 44\n2\t0\t1\tinit\t48\ta[0]=run Q(7)\n\tstored a[0] 1\n\tstarted 1 Q\n"
unfolding machine shows
started = refl

-- with sixteen processes there is room for none
abbrev standing_at : ℕ → Process
standing_at q = record { unit = 1; place = q; variables = (pos 5 ∷ pos 6 ∷ []) ∷ [] }

abbrev full : State
full = record { globals = []; processes = replicate 16 (standing_at 23); channels = [] }

abbrev run_it : Step
run_it = record { process = 0; number = 1; place = 23; partner = Nobody }

no_room : outcome_text starts full run_it (advance (machine_of starts) full run_it).0 (advance (machine_of starts) full run_it).1 ≡ bytes "\tstored a[0] 0\n"
unfolding machine shows
no_room = refl

-- ## `init{chan c=[1]of{byte,byte,byte};int x;c!300,7,9;c?x,x,9}`: each store is told as the variable is after the step, and what is compared is not stored
abbrev twice : Model
twice =
    init (body (declare 43 (variable (bytes "c") none (set_channel 1 (40 ∷ 40 ∷ 40 ∷ [])) ∷ []) ∷ declare 45 (variable (bytes "x") none unset ∷ []) ∷ [])
    (then (bare (leaf (send k_bang (plain (bytes "c")) (num 300 ∷ num 7 ∷ num 9 ∷ []))))
    (then (bare (leaf (receive k_ask (plain (bytes "c")) (into (plain (bytes "x")) ∷ into (plain (bytes "x")) ∷ exactly 9 ∷ [])))) end))) ∷ []

stored-twice : trail_text twice (record_of 0 1 ∷ record_of 0 1 ∷ []) 1 false (initial twice)
    ≡ bytes "1\t0\t1\tinit\t40\tc!300,7,9\n\tsent 1 (44,7,9)\n2\t0\t1\tinit\t50\tc?x,x,9\n\treceived 1 (44,7,9)\n\tstored x 7\n\tstored x 7\n"
unfolding machine shows
stored-twice = refl
