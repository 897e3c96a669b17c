-- Document 01, "Sample sheet": "P8 `init{0}` blocked at once", and "Storing keeps low bits": worked examples, computed. `init{0}`, and two processes with a channel, `chan
-- c=[1]of{byte};active proctype A(){c!300}active proctype B(){int x;c?x}`.
use Rattle.std.specs.Prelude.{ℕ, ◌≡◌, refl, List, [], ◌∷◌, ℤ, pos}
use Rattle.std.proofs.Math.Option.{none}
use Rattle.base_bytes.specs.Lists.{same}
use Rattle.base_kinds.specs.Kinds.{bytes}
use Rattle.base_values.specs.Types.{width_of, cast_of}
use Rattle.base_outcome.specs.declared.Taken.TheVariants.{Done}
use Rattle.spec_grammar.specs.Marks.{k_bang, k_ask}
use Rattle.spec_grammar.specs.Tree.{Name, num, plain, into, leaf, express, send, receive, bare, end, then, unset, set_channel, variable, declare, body, once, global, process, init, Model}
use Rattle.base_outcome.specs.declared.Partner.TheVariants.{Nobody}
use Rattle.spec_machine.specs.Eval.{eval}
use Rattle.spec_machine.specs.Messages.{find_from}
use Rattle.spec_machine.specs.Arguments.{values, agrees, targets}
use Rattle.spec_machine.specs.Ready.{ready}
use Rattle.spec_machine.specs.Effect.{deliveries, effect}
use Rattle.spec_machine.specs.Offers.{offers}
use Rattle.spec_machine.specs.State.{State}
use Rattle.spec_machine.specs.Names.{proctype_from, variable_from, message_from, meant}
use Rattle.spec_machine.specs.Begins.{items_before, makes_all, given, begins, begins_times, globals_from, starts_from, initial}
use Rattle.spec_machine.specs.Machine.{Step, blocked, any_from, late, list_from, offered, advance, ended_from, verdict}
use Rattle.spec_machine.specs.Steps.{statement_at, machine_of, steps_of, ended_of, take_of, print_of}

-- to unfold this is to unfold all that the examples compute with
unfoldable pub machine : Unit {0}
unfolding
    same width_of cast_of eval values agrees find_from targets ready deliveries effect offers proctype_from variable_from message_from meant items_before makes_all given begins begins_times globals_from
    starts_from initial statement_at steps_of ended_of take_of print_of any_from late list_from offered advance ended_from verdict
machine = tt

-- ## P8
abbrev pub zero : Model
zero = init (body [] (then (bare (leaf (express (num 0)))) end)) ∷ []

zero-starts : initial zero ≡ record { globals = []; processes = record { unit = 0; place = 2; variables = [] } ∷ []; channels = [] }
unfolding machine
zero-starts = refl

zero_blocked : (offered (machine_of zero) (initial zero) ≡ []) × (verdict (machine_of zero) (initial zero) ≡ blocked)
unfolding machine
zero_blocked = (refl, refl)

-- ## two processes
abbrev c : Name
c = bytes "c"

abbrev x : Name
x = bytes "x"

abbrev pub two : Model
two =
    global (declare 43 (variable c none (set_channel 1 (40 ∷ [])) ∷ [])) ∷
    process once (bytes "A") [] (body [] (then (bare (leaf (send k_bang (plain c) (num 300 ∷ [])))) end)) ∷
    process once (bytes "B") [] (body (declare 45 (variable x none unset ∷ []) ∷ []) (then (bare (leaf (receive k_ask (plain c) (into (plain x) ∷ [])))) end)) ∷ []

-- A stands at j, B at k with this x, and these messages are held
abbrev pub state : ℕ → ℕ → ℤ → List (List ℤ) → State
state j k v held =
    record {
      globals = (pos 1 ∷ []) ∷ [];
      processes = record { unit = 1; place = j; variables = [] } ∷ record { unit = 2; place = k; variables = (v ∷ []) ∷ [] } ∷ [];
      channels = record { unit = 0; variable = 0; held = held } ∷ [];
    }

two-starts : initial two ≡ state 11 25 (pos 0) []
unfolding machine
two-starts = refl

-- process p, its k-th offered step, at place j
abbrev pub offer : ℕ → ℕ → ℕ → Step
offer p k j = record { process = p; number = k; place = j; partner = Nobody }

-- the send is offered, the receive is not
two-offered : offered (machine_of two) (state 11 25 (pos 0) []) ≡ offer 0 1 11 ∷ []
unfolding machine
two-offered = refl

-- 300 in a byte is 44
two-sent : advance (machine_of two) (state 11 25 (pos 0) []) (offer 0 1 11) ≡ (Done, state 17 25 (pos 0) ((pos 44 ∷ []) ∷ []))
unfolding machine
two-sent = refl

two-received : advance (machine_of two) (state 17 25 (pos 0) ((pos 44 ∷ []) ∷ [])) (offer 1 1 25) ≡ (Done, state 17 32 (pos 44) [])
unfolding machine
two-received = refl
