-- Tests: worked examples and stored cases.
-- Worked examples of forms of trails, runs and replays (crates `trail_form`, `run_entry` and `trail_replay`), computed from the bytes of small models: document 01, "Trail lines", "Verdicts" and rows 10 to 12 of
-- "What is answered". Form beside the examples of crate `trail_form`.
use Rattle.std.specs.Prelude.{ℕ, ◌≡◌, refl, List, [], ◌∷◌, replicate, ℤ}
use Rattle.base_bytes.specs.Lists.{same}
use Rattle.base_kinds.specs.Kinds.{bytes}
use Rattle.spec_text.specs.Find.{find}
use Rattle.text_pieces.specs.Spans.{span}
use Rattle.spec_text.specs.Digits.{decimal_from}
use Rattle.base_values.specs.declared.Fault.TheVariants.{Divide}
use Rattle.read_passes.specs.Judging.{tables_text}
use Rattle.rule_item.specs.Rules.{global_of, bad_run, body_of, bad_passing, bad_count, bad_end}
use Rattle.link_places.specs.Places.{shallower, open_of, past_option, past_loop}
use Rattle.state_start.specs.Starting.{channel_made}
use Rattle.step_ready.specs.Channels.{fields_of, arguments_from, compared_at, agrees_of, matches_from, found_from}
use Rattle.step_ready.specs.Executing.{is_always, channels_from, fits_of}
use Rattle.step_offers.specs.Offers.{first_of, each_option, pick_at}
use Rattle.step_messages.specs.Messages.{gather_end, gather_list, aim_end, aim_list, put_in, taken_out, delivered}
use Rattle.step_statements.specs.Statements.{expressed, asserted, sent, received_from, received}
use Rattle.step_take.specs.Effects.{parameter_set, called, ran}
use Rattle.trail_form.specs.Forms.{form, spoiled, form_from, form_of}
use Rattle.spec_trails.specs.Replays as replay
use Rattle.spec_trails.specs.Runs as run
use Rattle.run_entry.specs.Runs.{ending_as, run_in}
use Rattle.run_entry.specs.declared.Ending.{Ending}
use Rattle.run_entry.specs.declared.Ending.TheVariants as ending
use Rattle.trail_replay.specs.Replay.{replay_in}
use Rattle.trail_replay.specs.declared.Replayed.{Replayed}
use Rattle.trail_replay.specs.declared.Replayed.TheVariants.{Accepted, Refused}
use Rattle.test_samples.specs.Samples.{cleared}
use Rattle.state_start.specs.Starting.{initial_of}
use Rattle.test_samples.proofs.Opened.{reads, moves}

-- the initial state of a model, from its tables
abbrev initial : List ℕ → List ℤ
initial t = initial_of t cleared

-- to unfold these is to unfold all that the examples compute with, besides reading and moving
unfoldable forming : Unit {0}
unfolding form_from span decimal_from find same
forming = tt

unfoldable replaying : Unit {0}
unfolding
    shallower open_of past_option past_loop is_always first_of each_option pick_at expressed asserted run.run_from replay.replay_from
replaying = tt

-- messages and further processes
unfoldable meeting : Unit {0}
unfolding
    global_of bad_run body_of bad_passing bad_count bad_end
    channel_made fields_of arguments_from compared_at agrees_of matches_from found_from channels_from fits_of gather_end gather_list aim_end aim_list put_in taken_out delivered
    sent received_from received parameter_set called ran
meeting = tt

-- how the automatic run of tables ends from a state, and after how many steps, with each of these limits
abbrev endings : List ℕ → List ℤ → List ℕ → List (Ending × ℕ)
endings t s [] = []
endings t s (n ∷ l) = (ending_as (run_in t n s).ending, (run_in t n s).count) ∷ endings t s l

abbrev endings_from : List ℕ → List ℕ → List (Ending × ℕ)
endings_from t l = endings t (initial t) l

abbrev ends : List ℕ → List ℕ → List (Ending × ℕ)
ends m l = endings_from (tables_text m) l

-- what replaying each of these trails answers
abbrev replays : List ℕ → List ℤ → List (List ℕ) → List Replayed
replays t s [] = []
replays t s (x ∷ l) = (replay_in t (form_of x) s).0 ∷ replays t s l

abbrev replays_from : List ℕ → List (List ℕ) → List Replayed
replays_from t l = replays t (initial t) l

abbrev answers : List ℕ → List (List ℕ) → List Replayed
answers m l = replays_from (tables_text m) l

-- ## forms: "`S`, process, k ..; last, once, `V` and a verdict. Numbers have 1 to 5 digits, no leading zero"
verdict_words : (form_of (bytes "V\tassert\n") ≡ form [] 1) × (form_of (bytes "V\tfault\n") ≡ form [] 2) × (form_of (bytes "V\tfinished\n") ≡ form [] 3)
    × (form_of (bytes "V\tblocked\n") ≡ form [] 4) × (form_of (bytes "V\topen\n") ≡ form [] 5)
unfolding forming
verdict_words = (refl, refl, refl, refl, refl)

no_verdict_words : (form_of (bytes "V\t\n") ≡ spoiled 10 1) × (form_of (bytes "V\tope\n") ≡ spoiled 10 1) × (form_of (bytes "V\topens\n") ≡ spoiled 10 1)
    × (form_of (bytes "V\tOpen\n") ≡ spoiled 10 1) × (form_of (bytes "Vopen\n") ≡ spoiled 10 1) × (form_of (bytes "v\topen\n") ≡ spoiled 10 1)
unfolding forming
no_verdict_words = (refl, refl, refl, refl, refl, refl)

numbers_of_five_digits : (form_of (bytes "S\t99999\t0\nV\topen\n") ≡ form (record { process = 99999; choice = 0 } ∷ []) 5)
    × (form_of (bytes "S\t100000\t0\nV\topen\n") ≡ spoiled 10 1) × (form_of (bytes "S\t0\t99999\nV\topen\n") ≡ form (record { process = 0; choice = 99999 } ∷ []) 5)
    × (form_of (bytes "S\t0\t100000\nV\topen\n") ≡ spoiled 10 1)
unfolding forming
numbers_of_five_digits = (refl, refl, refl, refl)

no_leading_zero : (form_of (bytes "S\t0\t0\nV\topen\n") ≡ form (record { process = 0; choice = 0 } ∷ []) 5) × (form_of (bytes "S\t00\t0\nV\topen\n") ≡ spoiled 10 1)
    × (form_of (bytes "S\t0\t00\nV\topen\n") ≡ spoiled 10 1) × (form_of (bytes "S\t0\t\nV\topen\n") ≡ spoiled 10 1) × (form_of (bytes "S\t\t0\nV\topen\n") ≡ spoiled 10 1)
unfolding forming
no_leading_zero = (refl, refl, refl, refl, refl)

tabs_alone : (form_of (bytes "S 0 1\nV\topen\n") ≡ spoiled 10 1) × (form_of (bytes "S\t0 1\nV\topen\n") ≡ spoiled 10 1) × (form_of (bytes "S\t0\t1 \nV\topen\n") ≡ spoiled 10 1)
    × (form_of (bytes "S\t0\t-1\nV\topen\n") ≡ spoiled 10 1)
unfolding forming
tabs_alone = (refl, refl, refl, refl)

-- "A missing `V` is 10 at the line after the last, a missing LF at its own line, anything after `V` on the next line"
last-lines : (form_of (bytes "S\t0\t1\nS\t0\t1\n") ≡ spoiled 10 3) × (form_of (bytes "S\t0\t1\nS\t0\t1") ≡ spoiled 10 2)
    × (form_of (bytes "S\t0\t1\nV\topen\nS\t0\t1\n") ≡ spoiled 10 3) × (form_of (bytes "V\topen\nx") ≡ spoiled 10 2) × (form_of (bytes "V\topen\nV\topen\n") ≡ spoiled 10 2)
unfolding forming
last-lines = (refl, refl, refl, refl, refl)

-- "Trail 32,768 bytes": one more is 2, at line 0
trail_bytes : (form_of (replicate 32768 0) ≡ spoiled 10 1) × (form_of (replicate 32769 0) ≡ spoiled 2 0)
unfolding forming
trail_bytes = (refl, refl)

-- ## runs: "takes first offered steps until none is, one fails or an unsigned limit is met; the count .. is the number of steps taken, a failing one included"
run-asserts : ends (bytes "init{assert(0);skip}") (0 ∷ 1 ∷ 2 ∷ []) ≡ ((ending.Open, 0) ∷ (ending.Assert, 1) ∷ (ending.Assert, 1) ∷ [])
unfolding reads moves replaying
run-asserts = refl

run-faults : ends (bytes "init{skip;1/0}") (0 ∷ 1 ∷ 2 ∷ 3 ∷ []) ≡ ((ending.Open, 0) ∷ (ending.Open, 1) ∷ (ending.Fault Divide, 2) ∷ (ending.Fault Divide, 2) ∷ [])
unfolding reads moves replaying
run-faults = refl

run_finishes : ends (bytes "init{skip}") (0 ∷ 1 ∷ 2 ∷ []) ≡ ((ending.Open, 0) ∷ (ending.Finished, 1) ∷ (ending.Finished, 1) ∷ [])
unfolding reads moves replaying
run_finishes = refl

run_blocks : ends (bytes "init{skip;0}") (0 ∷ 1 ∷ 2 ∷ []) ≡ ((ending.Open, 0) ∷ (ending.Blocked, 1) ∷ (ending.Blocked, 1) ∷ [])
unfolding reads moves replaying
run_blocks = refl

run_blocked_at_once : ends (bytes "init{0}") (0 ∷ 1 ∷ []) ≡ ((ending.Blocked, 0) ∷ (ending.Blocked, 0) ∷ [])
unfolding reads moves replaying
run_blocked_at_once = refl

run_stays_open : ends (bytes "init{do::skip od}") (0 ∷ 1 ∷ 3 ∷ []) ≡ ((ending.Open, 0) ∷ (ending.Open, 1) ∷ (ending.Open, 3) ∷ [])
unfolding reads moves replaying
run_stays_open = refl

-- "`finished` (all ended)": of two processes one alone does not do; `timeout` where nothing else is executable, in any process
run_of_two : ends (bytes "active proctype p(){0} init{skip}") (0 ∷ 1 ∷ 2 ∷ []) ≡ ((ending.Open, 0) ∷ (ending.Blocked, 1) ∷ (ending.Blocked, 1) ∷ [])
unfolding reads moves replaying
run_of_two = refl

run_of_timeout : ends (bytes "active proctype p(){timeout;assert(0)} init{skip}") (1 ∷ 2 ∷ 3 ∷ []) ≡ ((ending.Open, 1) ∷ (ending.Open, 2) ∷ (ending.Assert, 3) ∷ [])
unfolding reads moves replaying
run_of_timeout = refl

-- "`run` when a process and its channels still fit": the 16th process, and no 17th
run_to_16_processes : ends (bytes "active[14]proctype p(){0}proctype q(){0}init{run q();run q()}") (1 ∷ 2 ∷ []) ≡ ((ending.Blocked, 1) ∷ (ending.Blocked, 1) ∷ [])
unfolding reads moves replaying meeting
run_to_16_processes = refl

-- "a send when the channel is not full; a receive when it is not empty"
full-channel : ends (bytes "chan c=[1]of{byte};init{c!1;c!2}") (1 ∷ 2 ∷ []) ≡ ((ending.Blocked, 1) ∷ (ending.Blocked, 1) ∷ [])
unfolding reads moves replaying meeting
full-channel = refl

empty-channel : ends (bytes "chan c=[1]of{byte};init{c!1;c?1;c?1}") (1 ∷ 2 ∷ 3 ∷ []) ≡ ((ending.Open, 1) ∷ (ending.Blocked, 2) ∷ (ending.Blocked, 2) ∷ [])
unfolding reads moves replaying meeting
empty-channel = refl

-- "Sent values are cast to field types": 300 in byte 44
cast_when_sent : (ends (bytes "chan c=[1]of{byte};init{c!300;c?44}") (2 ∷ []) ≡ ((ending.Finished, 2) ∷ []))
    × (ends (bytes "chan c=[1]of{byte};init{c!300;c?300}") (2 ∷ []) ≡ ((ending.Blocked, 1) ∷ []))
unfolding reads moves replaying meeting
cast_when_sent = (refl, refl)

-- ## replays: rows 11 and 12, "A step after a failed assertion or fault is 11"; verdicts by their numbers, assert 1, fault 2, finished 3, blocked 4, open 5
-- the trail of document 01, and with other verdicts
claims : answers (bytes "init{assert(0)}") (bytes "S\t0\t1\nV\tassert\n" ∷ bytes "S\t0\t1\nV\tfault\n" ∷ bytes "S\t0\t1\nV\topen\n" ∷ bytes "V\topen\n" ∷ bytes "V\tassert\n" ∷ [])
    ≡ (Accepted 1 ∷ Refused 12 2 ∷ Refused 12 2 ∷ Accepted 5 ∷ Refused 12 1 ∷ [])
unfolding reads moves replaying forming
claims = refl

-- no such k, no such process, a step behind the failed one; "form .., then steps"
not_offered :
    answers (bytes "init{assert(0)}")
    (bytes "S\t0\t0\nV\tassert\n" ∷ bytes "S\t0\t2\nV\tassert\n" ∷ bytes "S\t1\t1\nV\tassert\n" ∷ bytes "S\t0\t1\nS\t0\t1\nV\tassert\n" ∷ bytes "S\t0\t2\nV\n" ∷ [])
    ≡ (Refused 11 1 ∷ Refused 11 1 ∷ Refused 11 1 ∷ Refused 11 2 ∷ Refused 10 2 ∷ [])
unfolding reads moves replaying forming
not_offered = refl

to_the_end : answers (bytes "init{skip}") (bytes "S\t0\t1\nV\tfinished\n" ∷ bytes "V\tfinished\n" ∷ bytes "S\t0\t1\nS\t0\t1\nV\tfinished\n" ∷ [])
    ≡ (Accepted 3 ∷ Refused 12 1 ∷ Refused 11 2 ∷ [])
unfolding reads moves replaying forming
to_the_end = refl

into_a_fault : answers (bytes "init{1/0;skip}") (bytes "S\t0\t1\nV\tfault\n" ∷ bytes "S\t0\t1\nV\tassert\n" ∷ bytes "S\t0\t1\nS\t0\t1\nV\tfault\n" ∷ [])
    ≡ (Accepted 2 ∷ Refused 12 2 ∷ Refused 11 2 ∷ [])
unfolding reads moves replaying forming
into_a_fault = refl

blocked_at_once : answers (bytes "init{0}") (bytes "V\tblocked\n" ∷ bytes "V\topen\n" ∷ bytes "S\t0\t1\nV\tblocked\n" ∷ []) ≡ (Accepted 4 ∷ Refused 12 1 ∷ Refused 11 1 ∷ [])
unfolding reads moves replaying forming
blocked_at_once = refl

second_option : answers (bytes "init{if::assert(0)::skip fi}") (bytes "S\t0\t2\nV\tfinished\n" ∷ bytes "S\t0\t1\nV\tassert\n" ∷ bytes "S\t0\t3\nV\topen\n" ∷ [])
    ≡ (Accepted 3 ∷ Accepted 1 ∷ Refused 11 1 ∷ [])
unfolding reads moves replaying forming
second_option = refl

-- ## "replay's 11 and 12 leave the state reached before the refused record", and a failing step leaves the state before it: two trails of a model that leave the same
abbrev Alike : List ℕ → List ℤ → List ℕ → List ℕ → Type 0
Alike t s x y = (replay_in t (form_of x) s).1 ≡ (replay_in t (form_of y) s).1

abbrev AlikeFrom : List ℕ → List ℕ → List ℕ → Type 0
AlikeFrom t x y = Alike t (initial t) x y

failed_step_leaves : AlikeFrom (tables_text (bytes "init{assert(0)}")) (bytes "S\t0\t1\nV\tassert\n") (bytes "V\topen\n")
unfolding reads moves replaying forming
failed_step_leaves = refl

refused_step_leaves : AlikeFrom (tables_text (bytes "init{skip}")) (bytes "S\t0\t1\nS\t0\t1\nV\topen\n") (bytes "S\t0\t1\nV\tfinished\n")
unfolding reads moves replaying forming
refused_step_leaves = refl
