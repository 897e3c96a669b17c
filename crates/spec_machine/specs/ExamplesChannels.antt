-- Document 01, "How it moves": "a send when the channel is not full; a receive when it is not empty and each constant and `eval` equals its field, tried left to right to the first
-- difference", "target indices are worked out in the state before the step, then stores go left to right. Sent values are cast to field types"; "By program: .. a full and an empty channel";
-- "Tempting slips: .. using a new `i` for the index in `c?i,a[i]`". Computed in plain states.
use Rattle.std.specs.Prelude.{ℕ, ◌≡◌, refl, List, [], ◌∷◌, ℤ, pos}
use Rattle.base_values.specs.declared.Fault.TheVariants.{Divide}
use Rattle.base_outcome.specs.declared.Taken.TheVariants.{Done}
use Rattle.spec_grammar.specs.Marks.{k_bang, k_ask, k_len}
use Rattle.spec_grammar.specs.Tree.{Expr, Received, action, Tree, plain, indexed, num, get, query, binary, into, equal, exactly, exactly_true, exactly_false, leaf, express, send, receive, unset, Declaration, mtypes, global, Model}
use Rattle.spec_machine.specs.State.{Channel, State}
use Rattle.spec_machine.specs.Machine.{offered}
use Rattle.spec_machine.specs.Steps.{machine_of}
use Rattle.spec_machine.specs.Places.{start_of, end_of}
use Rattle.spec_machine.specs.ExamplesWords.{working, a, c, d, i, m, n, x, minus, bit, byte, mtype, short, int, faulty, of, scalar, array, channel, main, state, process_at, channel_of, one, taken, Turns, FaultsAt, WaitsAt}

-- ## `chan c=[2]of{byte};int x`, channel 1 with these values waiting, the oldest first
abbrev bytes_and_x : List Declaration
bytes_and_x = channel c 2 (byte ∷ []) ∷ scalar int x unset ∷ []

abbrev c_and_x : ℤ → List (List ℤ)
c_and_x v = one (pos 1) ∷ one v ∷ []

abbrev waiting : List (List ℤ) → List Channel
waiting l = channel_of 0 0 l ∷ []

abbrev sends : Expr → Tree action
sends e = leaf (send k_bang (plain c) (e ∷ []))

abbrev receives : Received → Tree action
receives r = leaf (receive k_ask (plain c) (r ∷ []))

-- a message goes behind those that wait
behind_them : Turns bytes_and_x (sends (num 5)) (c_and_x (pos 0)) (waiting []) (c_and_x (pos 0)) (waiting (one (pos 5) ∷ []))
    × Turns bytes_and_x (sends (num 6)) (c_and_x (pos 0)) (waiting (one (pos 5) ∷ [])) (c_and_x (pos 0)) (waiting (one (pos 5) ∷ one (pos 6) ∷ []))
unfolding working
behind_them = (refl, refl)

-- "when the channel is not full": two wait
full : WaitsAt bytes_and_x (sends (num 7)) (c_and_x (pos 0)) (waiting (one (pos 5) ∷ one (pos 6) ∷ []))
unfolding working
full = refl

-- the oldest goes out first
oldest_first : Turns bytes_and_x (receives (into (plain x))) (c_and_x (pos 0)) (waiting (one (pos 5) ∷ one (pos 6) ∷ [])) (c_and_x (pos 5)) (waiting (one (pos 6) ∷ []))
    × Turns bytes_and_x (receives (into (plain x))) (c_and_x (pos 0)) (waiting (one (pos 6) ∷ [])) (c_and_x (pos 6)) (waiting [])
unfolding working
oldest_first = (refl, refl)

-- "when it is not empty"
empty : WaitsAt bytes_and_x (receives (into (plain x))) (c_and_x (pos 0)) (waiting [])
unfolding working
empty = refl

-- `len(c)==2`
lengths : Turns bytes_and_x (leaf (express (binary 6 (query k_len (plain c)) (num 2)))) (c_and_x (pos 0)) (waiting (one (pos 5) ∷ one (pos 6) ∷ [])) (c_and_x (pos 0)) (waiting (one (pos 5) ∷ one (pos 6) ∷ []))
    × WaitsAt bytes_and_x (leaf (express (binary 6 (query k_len (plain c)) (num 2)))) (c_and_x (pos 0)) (waiting (one (pos 5) ∷ []))
unfolding working
lengths = (refl, refl)

-- ## "Sent values are cast to field types": each to its own
casts : Turns (channel c 1 (byte ∷ bit ∷ short ∷ int ∷ []) ∷ []) (leaf (send k_bang (plain c) (num 300 ∷ num 2 ∷ num 40000 ∷ num 40000 ∷ []))) (one (pos 1) ∷ []) (waiting [])
    (one (pos 1) ∷ []) (waiting ((pos 44 ∷ pos 0 ∷ minus 25536 ∷ pos 40000 ∷ []) ∷ []))
unfolding working
casts = refl

-- a target casts once more: `chan c=[1]of{int};byte x;c?x`
casts_again : Turns (channel c 1 (int ∷ []) ∷ scalar byte x unset ∷ []) (receives (into (plain x))) (c_and_x (pos 0)) (waiting (one (pos 300) ∷ [])) (c_and_x (pos 44)) (waiting [])
unfolding working
casts_again = refl

-- ## constants and `eval` are compared as they are: where 44 waits, `c?300` does not match it, nor `c?eval(300)`
constants : Turns bytes_and_x (receives (exactly 44)) (c_and_x (pos 0)) (waiting (one (pos 44) ∷ [])) (c_and_x (pos 0)) (waiting [])
    × WaitsAt bytes_and_x (receives (exactly 300)) (c_and_x (pos 0)) (waiting (one (pos 44) ∷ [])) × WaitsAt bytes_and_x (receives (exactly 45)) (c_and_x (pos 0)) (waiting (one (pos 44) ∷ []))
    × WaitsAt bytes_and_x (receives (exactly 6)) (c_and_x (pos 0)) (waiting (one (pos 5) ∷ one (pos 6) ∷ []))
unfolding working
constants = (refl, refl, refl, refl)

truths : Turns bytes_and_x (receives exactly_true) (c_and_x (pos 0)) (waiting (one (pos 1) ∷ [])) (c_and_x (pos 0)) (waiting [])
    × WaitsAt bytes_and_x (receives exactly_true) (c_and_x (pos 0)) (waiting (one (pos 2) ∷ []))
    × Turns bytes_and_x (receives exactly_false) (c_and_x (pos 0)) (waiting (one (pos 0) ∷ [])) (c_and_x (pos 0)) (waiting [])
    × WaitsAt bytes_and_x (receives exactly_false) (c_and_x (pos 0)) (waiting (one (pos 1) ∷ []))
unfolding working
truths = (refl, refl, refl, refl)

-- `c?eval(x)` stores nothing, where x is 44, 300, or -1 while 255 waits
evaluated : Turns bytes_and_x (receives (equal (of x))) (c_and_x (pos 44)) (waiting (one (pos 44) ∷ [])) (c_and_x (pos 44)) (waiting [])
    × WaitsAt bytes_and_x (receives (equal (of x))) (c_and_x (pos 300)) (waiting (one (pos 44) ∷ []))
    × WaitsAt bytes_and_x (receives (equal (of x))) (c_and_x (minus 1)) (waiting (one (pos 255) ∷ []))
unfolding working
evaluated = (refl, refl, refl)

-- ## `chan c=[1]of{byte,byte};int i;int a[2]`, where i, a[0] and a[1] have these values, and one message of 1 and 7 waits or none
abbrev with_array : List Declaration
with_array = channel c 1 (byte ∷ byte ∷ []) ∷ scalar int i unset ∷ array int a 2 unset ∷ []

abbrev values : ℤ → ℤ → ℤ → List (List ℤ)
values u v w = one (pos 1) ∷ one u ∷ (v ∷ w ∷ []) ∷ []

abbrev message : List (List ℤ)
message = (pos 1 ∷ pos 7 ∷ []) ∷ []

abbrev a_at_i : Received
a_at_i = into (indexed a (get (plain i)))

-- `c?i,a[i]`: the old i, 0, is the index, and i becomes 1; the other way round it is the same
old_index : Turns with_array (leaf (receive k_ask (plain c) (into (plain i) ∷ a_at_i ∷ []))) (values (pos 0) (pos 0) (pos 0)) (waiting message) (values (pos 1) (pos 7) (pos 0)) (waiting [])
    × Turns with_array (leaf (receive k_ask (plain c) (a_at_i ∷ into (plain i) ∷ []))) (values (pos 0) (pos 0) (pos 0)) (waiting message) (values (pos 7) (pos 1) (pos 0)) (waiting [])
    × Turns with_array (leaf (receive k_ask (plain c) (into (plain i) ∷ a_at_i ∷ []))) (values (pos 1) (pos 0) (pos 0)) (waiting message) (values (pos 1) (pos 0) (pos 7)) (waiting [])
unfolding working
old_index = (refl, refl, refl)

-- `c?i,i`: "stores go left to right"
last-stays : Turns with_array (leaf (receive k_ask (plain c) (into (plain i) ∷ into (plain i) ∷ []))) (values (pos 0) (pos 0) (pos 0)) (waiting message) (values (pos 7) (pos 0) (pos 0)) (waiting [])
unfolding working
last-stays = refl

-- `c?i,eval(i)`: the test sees the old i
old_test : WaitsAt with_array (leaf (receive k_ask (plain c) (into (plain i) ∷ equal (of i) ∷ []))) (values (pos 1) (pos 0) (pos 0)) (waiting message)
    × Turns with_array (leaf (receive k_ask (plain c) (into (plain i) ∷ equal (of i) ∷ []))) (values (pos 7) (pos 0) (pos 0)) (waiting message) (values (pos 1) (pos 0) (pos 0)) (waiting [])
unfolding working
old_test = (refl, refl)

-- "tried left to right to the first difference": behind 2 against 1 `eval(1/0)` is not worked out, behind 1 it is; in front of 2 it is
first_difference : WaitsAt with_array (leaf (receive k_ask (plain c) (exactly 2 ∷ equal faulty ∷ []))) (values (pos 0) (pos 0) (pos 0)) (waiting message)
    × FaultsAt with_array (leaf (receive k_ask (plain c) (exactly 1 ∷ equal faulty ∷ []))) (values (pos 0) (pos 0) (pos 0)) (waiting message) Divide
    × FaultsAt with_array (leaf (receive k_ask (plain c) (equal faulty ∷ exactly 2 ∷ []))) (values (pos 0) (pos 0) (pos 0)) (waiting message) Divide
unfolding working
first_difference = (refl, refl, refl)

-- `c?c,i`: the message goes out of the channel that c named before
own_name : Turns with_array (leaf (receive k_ask (plain c) (into (plain c) ∷ into (plain i) ∷ []))) (values (pos 0) (pos 0) (pos 0)) (channel_of 0 0 ((pos 9 ∷ pos 7 ∷ []) ∷ []) ∷ [])
    (one (pos 9) ∷ one (pos 7) ∷ (pos 0 ∷ pos 0 ∷ []) ∷ []) (waiting [])
unfolding working
own_name = refl

-- ## `mtype={m,n};init{chan c=[1]of{mtype};c?n}`: an mtype name is compared, and n is 2
abbrev named : Model
named = mtypes (m ∷ n ∷ []) ∷ main (channel c 1 (mtype ∷ []) ∷ []) (receives (into (plain n)) ∷ []) ∷ []

abbrev holds : ℕ → List (List ℤ) → State
holds j l = state [] (process_at 1 j (one (pos 1) ∷ []) ∷ []) (channel_of 1 0 l ∷ [])

names_compared : (taken named 0 1 (holds (start_of named 1) (one (pos 2) ∷ [])) ≡ (Done, holds (end_of named 1) [])) × (offered (machine_of named) (holds (start_of named 1) (one (pos 1) ∷ [])) ≡ [])
unfolding working
names_compared = (refl, refl)

-- ## two channels, each with its own capacity, fields and messages: `chan c=[1]of{byte};chan d=[2]of{byte,short};S`
abbrev second : List Declaration
second = channel c 1 (byte ∷ []) ∷ channel d 2 (byte ∷ short ∷ []) ∷ []

abbrev both_held : List (List ℤ) → List Channel
both_held l = channel_of 0 0 (one (pos 3) ∷ []) ∷ channel_of 0 1 l ∷ []

abbrev c_and_d : List (List ℤ)
c_and_d = one (pos 1) ∷ one (pos 2) ∷ []

abbrev to_d : Tree action
to_d = leaf (send k_bang (plain d) (num 300 ∷ num 300 ∷ []))

-- `d!300,300`, though the first is full; `d?1,eval(2)` leaves the first as it is
to_the_second : Turns second to_d c_and_d (both_held []) c_and_d (both_held ((pos 44 ∷ pos 300 ∷ []) ∷ []))
    × Turns second to_d c_and_d (both_held ((pos 1 ∷ pos 2 ∷ []) ∷ [])) c_and_d (both_held ((pos 1 ∷ pos 2 ∷ []) ∷ (pos 44 ∷ pos 300 ∷ []) ∷ []))
    × WaitsAt second to_d c_and_d (both_held ((pos 1 ∷ pos 2 ∷ []) ∷ (pos 1 ∷ pos 2 ∷ []) ∷ []))
    × Turns second (leaf (receive k_ask (plain d) (exactly 1 ∷ equal (num 2) ∷ []))) c_and_d (both_held ((pos 1 ∷ pos 2 ∷ []) ∷ [])) c_and_d (both_held [])
unfolding working
to_the_second = (refl, refl, refl, refl)

-- ## globals: `chan c=[2]of{byte};byte a[2];init{c?a[1]}`
abbrev global_array : Model
global_array = global (channel c 2 (byte ∷ [])) ∷ global (array byte a 2 unset) ∷ main [] (leaf (receive k_ask (plain c) (into (indexed a (num 1)) ∷ [])) ∷ []) ∷ []

abbrev global_at : ℕ → ℕ → List (List ℤ) → State
global_at j v l = state (one (pos 1) ∷ (pos 0 ∷ pos v ∷ []) ∷ []) (process_at 2 j [] ∷ []) (channel_of 0 0 l ∷ [])

into_a_global : taken global_array 0 1 (global_at (start_of global_array 2) 0 (one (pos 5) ∷ one (pos 6) ∷ [])) ≡ (Done, global_at (end_of global_array 2) 5 (one (pos 6) ∷ []))
unfolding working
into_a_global = refl
