-- Tests: worked examples and stored cases.
-- The numbers that `start` leaves for a text are those of its tree's initial plain state; computed from the bytes of the text.
use Rattle.std.specs.Prelude.{◌≡◌, refl, ℕ, List, [], ◌∷◌, get_or, replicate, pos, negsuc}
use Rattle.std.proofs.Math.Option.{none, some}
use Rattle.base_kinds.specs.Kinds.{bytes}
use Rattle.read_passes.specs.Judging.{tables_text}
use Rattle.state_start.specs.Starting.{channel_made, initial_of}
use Rattle.base_outcome.specs.declared.Taken.TheVariants.{Done}
use Rattle.state_start.specs.Values.{literal_of}
use Rattle.rule_item.specs.Rules.{global_of}
use Rattle.step_statements.specs.Statements.{sent}
use Rattle.step_take.specs.Effects.{parameter_set, called, set_run_at, set_ran, taken_of}
use Rattle.step_ready.specs.Executing.{channels_from, fits_of}
use Rattle.base_values.specs.Operators.{unary_of}
use Rattle.spec_grammar.specs.Marks.{k_bang}
use Rattle.spec_grammar.specs.Tree.{num, get, unary, plain, leaf, send, set_run, bare, end, then, unset, set_number, set_channel, variable, declare, group, body, idle, mtypes, global, process, init, Model}
use Rattle.step_messages.specs.Messages.{gather_end, gather_list, put_in, taken_out}
use Rattle.step_ready.specs.Channels.{fields_of, arguments_from}
use Rattle.test_samples.proofs.Opened.{reads, moves}
use Rattle.spec_machine.specs.State.{State, no_process}
use Rattle.spec_machine.specs.Machine.{advance}
use Rattle.spec_machine.specs.Steps.{machine_of}
use Rattle.spec_machine.specs.Begins.{initial}
use Rattle.agree_encode.specs.Encode.{pad, rows, variable_at, declared_at, encode}
use Rattle.spec_machine.specs.Examples.{machine, zero, two, state, offer}

zero-numbers : initial_of (tables_text (bytes "init{0}")) (replicate 2048 (pos 0)) ≡ encode zero (initial zero)
unfolding reads moves machine pad rows variable_at declared_at encode
zero-numbers = refl

two-numbers :
    initial_of (tables_text (bytes "chan c=[1]of{byte};active proctype A(){c!300}active proctype B(){int x;c?x}")) (replicate 2048 (pos 0)) ≡ encode two (initial two)
unfolding reads moves machine pad rows variable_at declared_at encode channel_made
two-numbers = refl

-- one send: the message is there, cast to a byte
two-sends :
    taken_of (tables_text (bytes "chan c=[1]of{byte};active proctype A(){c!300}active proctype B(){int x;c?x}")) 0 11 (encode two (initial two))
    ≡ (Done, encode two (state 17 25 (pos 0) ((pos 44 ∷ []) ∷ [])))
unfolding reads moves machine pad rows variable_at declared_at encode gather_end gather_list put_in taken_out fields_of arguments_from sent
two-sends = refl

-- ## mtype names, an array, parameters, a local channel, `_pid`'s type, and `v = run`
abbrev text : List ℕ
text = bytes "mtype={A,B};byte g[2]=7;proctype P(chan k;int v){chan l=[2]of{mtype,int};l!B,v}init{pid q;q=run P(3,-5)}"

abbrev more : Model
more =
    mtypes (bytes "A" ∷ bytes "B" ∷ []) ∷
    global (declare 40 (variable (bytes "g") (some 2) (set_number 7) ∷ [])) ∷
    process idle (bytes "P") (group 43 (bytes "k" ∷ []) ∷ group 45 (bytes "v" ∷ []) ∷ [])
    (body (declare 43 (variable (bytes "l") none (set_channel 2 (41 ∷ 45 ∷ [])) ∷ []) ∷ [])
    (then (bare (leaf (send k_bang (plain (bytes "l")) (get (plain (bytes "B")) ∷ get (plain (bytes "v")) ∷ [])))) end)) ∷
    init (body (declare 42 (variable (bytes "q") none unset ∷ []) ∷ []) (then (bare (leaf (set_run (plain (bytes "q")) (bytes "P") (num 3 ∷ unary 15 (num 5) ∷ [])))) end)) ∷ []

abbrev place : ℕ
place = (get_or (initial more).processes 0 no_process).place

more_numbers : initial_of (tables_text text) (replicate 2048 (pos 0)) ≡ encode more (initial more)
unfolding reads moves machine pad rows variable_at declared_at encode channel_made literal_of
more_numbers = refl

-- the process that is run: its parameters 3 and -5, its channel 1, and q is 1
abbrev begun : State
begun = (advance (machine_of more) (initial more) (offer 0 1 place)).1

more-begun : (begun.processes ≡ record { unit = 3; place = 62; variables = (pos 1 ∷ []) ∷ [] } ∷ record { unit = 2; place = 34; variables = (pos 3 ∷ []) ∷ (negsuc 4 ∷ []) ∷ (pos 1 ∷ []) ∷ [] } ∷ [])
    × (begun.globals ≡ (pos 7 ∷ pos 7 ∷ []) ∷ []) × (begun.channels ≡ record { unit = 2; variable = 2; held = [] } ∷ [])
unfolding machine unary_of
more-begun = (refl, refl, refl)

more-runs : taken_of (tables_text text) 0 place (encode more (initial more)) ≡ (Done, encode more begun)
unfolding reads moves machine pad rows variable_at declared_at encode channel_made gather_end gather_list set_ran set_run_at called parameter_set fits_of channels_from global_of literal_of
more-runs = refl
