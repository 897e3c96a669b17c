-- Document 01, "How it moves": "Faults: zero divisor, shift outside 0 to 31, index out of range, a channel number that was never made, wrong field count at run time. (H: `len` of an unmade
-- channel too.)", "A statement whose test faults counts as executable (H)", "A failed assertion or fault changes no state", "Within a statement work goes left to right in the text, but a
-- channel's number and field count are tested first, and a receive's tests come before its targets". Each fault beside its neighbour that is none, computed, and which of two comes first.
use Rattle.std.specs.Prelude.{ℕ, refl, List, [], ◌∷◌, ℤ, pos}
use Rattle.base_values.specs.declared.Fault.TheVariants.{Divide, Shift, Index, Channel, Fields}
use Rattle.spec_grammar.specs.Marks.{k_bang, k_ask, k_len}
use Rattle.spec_grammar.specs.Tree.{Expr, action, Tree, plain, indexed, num, get, query, binary, choice, into, equal, exactly, leaf, express, assign, increment, send, receive, unset, set_number, Declaration}
use Rattle.spec_machine.specs.State as states
use Rattle.spec_machine.specs.ExamplesWords.{working, a, c, d, x, minus, byte, chan, int, neg, quotient, sum, faulty, scalar, array, channel, channel_of, one, Gives, Leaves, Faults, Turns, FaultsAt, WaitsAt}

-- ## `int x;x=E`
abbrev x_only : List Declaration
x_only = scalar int x unset ∷ []

abbrev setting : Expr → Tree action
setting e = leaf (assign (plain x) e)

-- "zero divisor"
divisors : Leaves x_only (setting (quotient (num 7) (num 1))) (one (pos 7) ∷ []) × Leaves x_only (setting (quotient (num 7) (neg (num 1)))) (one (minus 7) ∷ [])
    × Faults x_only (setting (quotient (num 7) (num 0))) Divide × Faults x_only (setting (binary 18 (num 7) (num 0))) Divide
unfolding working
divisors = (refl, refl, refl, refl)

-- "shift outside 0 to 31"
shifts : Leaves x_only (setting (binary 12 (num 1) (num 0))) (one (pos 1) ∷ []) × Leaves x_only (setting (binary 12 (num 1) (num 31))) (one (minus 2147483648) ∷ [])
    × Faults x_only (setting (binary 12 (num 1) (num 32))) Shift × Faults x_only (setting (binary 13 (num 1) (neg (num 1)))) Shift
unfolding working
shifts = (refl, refl, refl, refl)

-- ## `byte a[2]`: "index out of range", stored to and read
abbrev a_only : List Declaration
a_only = array byte a 2 unset ∷ []

abbrev at_index : Expr → Tree action
at_index e = leaf (assign (indexed a e) (num 7))

indices : Leaves a_only (at_index (num 0)) ((pos 7 ∷ pos 0 ∷ []) ∷ []) × Leaves a_only (at_index (num 1)) ((pos 0 ∷ pos 7 ∷ []) ∷ [])
    × Faults a_only (at_index (num 2)) Index × Faults a_only (at_index (neg (num 1))) Index × Leaves a_only (leaf (increment (indexed a (num 1)))) ((pos 0 ∷ pos 1 ∷ []) ∷ [])
    × Faults a_only (leaf (increment (indexed a (num 2)))) Index
unfolding working
indices = (refl, refl, refl, refl, refl, refl)

-- `a[1]` is 5, as `a[0]` is; `a[2]` and `a[-1]` as tests count as executable
reads : Leaves (array byte a 2 (set_number 5) ∷ []) (leaf (express (get (indexed a (num 1))))) ((pos 5 ∷ pos 5 ∷ []) ∷ [])
    × Faults (array byte a 2 (set_number 5) ∷ []) (leaf (express (get (indexed a (num 2))))) Index × Faults (array byte a 2 (set_number 5) ∷ []) (leaf (express (get (indexed a (neg (num 1)))))) Index
unfolding working
reads = (refl, refl, refl)

-- ## `chan c=[1]of{byte};chan d=N`: channel 1 alone was made
abbrev c_and_d : ℕ → List Declaration
c_and_d k = channel c 1 (byte ∷ []) ∷ scalar chan d (set_number k) ∷ []

abbrev to_d : Tree action
to_d = leaf (send k_bang (plain d) (num 5 ∷ []))

-- "a channel number that was never made": 0 and 2
numbers : Gives (c_and_d 1) to_d (one (pos 1) ∷ one (pos 1) ∷ []) (channel_of 0 0 (one (pos 5) ∷ []) ∷ []) × Faults (c_and_d 0) to_d Channel × Faults (c_and_d 2) to_d Channel
    × Faults (c_and_d 2) (leaf (receive k_ask (plain d) (exactly 5 ∷ []))) Channel
unfolding working
numbers = (refl, refl, refl, refl)

-- "`len` of an unmade channel too"
lengths : Gives (c_and_d 1) (leaf (express (binary 6 (query k_len (plain d)) (num 0)))) (one (pos 1) ∷ one (pos 1) ∷ []) (channel_of 0 0 [] ∷ [])
    × Faults (c_and_d 0) (leaf (express (binary 6 (query k_len (plain d)) (num 0)))) Channel × Faults (c_and_d 2) (leaf (express (binary 6 (query k_len (plain d)) (num 0)))) Channel
unfolding working
lengths = (refl, refl, refl)

-- ## `chan c=[1]of{byte,byte}`: "wrong field count at run time"
abbrev pairs : List Declaration
pairs = channel c 1 (byte ∷ byte ∷ []) ∷ []

abbrev sending : List Expr → Tree action
sending es = leaf (send k_bang (plain c) es)

-- no message waits, or one of 3 and 4
abbrev empty : List states.Channel
empty = channel_of 0 0 [] ∷ []

abbrev full : List states.Channel
full = channel_of 0 0 ((pos 3 ∷ pos 4 ∷ []) ∷ []) ∷ []

counts : Gives pairs (sending (num 1 ∷ num 2 ∷ [])) (one (pos 1) ∷ []) (channel_of 0 0 ((pos 1 ∷ pos 2 ∷ []) ∷ []) ∷ [])
    × Faults pairs (sending (num 1 ∷ [])) Fields × Faults pairs (sending (num 1 ∷ num 2 ∷ num 3 ∷ [])) Fields × Faults pairs (leaf (receive k_ask (plain c) (exactly 3 ∷ []))) Fields
unfolding working
counts = (refl, refl, refl, refl)

-- ## which comes first
-- of an assignment the target's index, then the right side
target_first : Faults a_only (leaf (assign (indexed a (num 2)) faulty)) Index × Faults a_only (leaf (assign (indexed a (num 1)) faulty)) Divide
unfolding working
target_first = (refl, refl)

-- the number and the field count are tested on a full channel too, and before the arguments; these "are worked out only when there is room"
send_order : FaultsAt pairs (sending (faulty ∷ [])) (one (pos 1) ∷ []) full Fields × WaitsAt pairs (sending (num 1 ∷ faulty ∷ [])) (one (pos 1) ∷ []) full
    × FaultsAt pairs (sending (num 1 ∷ faulty ∷ [])) (one (pos 1) ∷ []) empty Divide × Faults (scalar chan c unset ∷ []) (sending (faulty ∷ [])) Channel
unfolding working
send_order = (refl, refl, refl, refl)

-- an empty channel is not tested against, "a receive's tests come before its targets", and a fault leaves the message where it is: `chan c=[1]of{byte,byte};byte a[2];c?..`
abbrev both : List Declaration
both = channel c 1 (byte ∷ byte ∷ []) ∷ array byte a 2 unset ∷ []

abbrev low : List (List ℤ)
low = one (pos 1) ∷ (pos 0 ∷ pos 0 ∷ []) ∷ []

receive_order : WaitsAt both (leaf (receive k_ask (plain c) (equal faulty ∷ into (indexed a (num 0)) ∷ []))) low empty
    × FaultsAt both (leaf (receive k_ask (plain c) (equal faulty ∷ into (indexed a (num 0)) ∷ []))) low full Divide
    × WaitsAt both (leaf (receive k_ask (plain c) (into (indexed a (num 2)) ∷ exactly 5 ∷ []))) low full
    × FaultsAt both (leaf (receive k_ask (plain c) (into (indexed a (num 2)) ∷ equal faulty ∷ []))) low full Divide
    × FaultsAt both (leaf (receive k_ask (plain c) (into (indexed a (num 2)) ∷ exactly 4 ∷ []))) low full Index
    × Turns both (leaf (receive k_ask (plain c) (into (indexed a (num 1)) ∷ exactly 4 ∷ []))) low full (one (pos 1) ∷ (pos 0 ∷ pos 3 ∷ []) ∷ []) empty
unfolding working
receive_order = (refl, refl, refl, refl, refl, refl)

-- the left operand's fault before the right one's, and that before the operator's own
operand_order : Faults x_only (setting (sum faulty (binary 12 (num 1) (num 32)))) Divide × Faults x_only (setting (sum (binary 12 (num 1) (num 32)) faulty)) Shift
    × Faults x_only (setting (quotient (binary 12 (num 1) (num 32)) (num 0))) Shift
unfolding working
operand_order = (refl, refl, refl)

-- P7: "`&&`, `||` and the conditional evaluate only what they need"
only_what_they_need : Leaves x_only (setting (binary 2 (num 0) faulty)) (one (pos 0) ∷ []) × Faults x_only (setting (binary 2 (num 1) faulty)) Divide
    × Faults x_only (setting (binary 2 faulty (num 0))) Divide × Leaves x_only (setting (binary 1 (num 5) faulty)) (one (pos 1) ∷ []) × Faults x_only (setting (binary 1 (num 0) faulty)) Divide
    × Leaves x_only (setting (choice (num 5) (num 2) faulty)) (one (pos 2) ∷ []) × Leaves x_only (setting (choice (num 0) faulty (num 3))) (one (pos 3) ∷ [])
    × Faults x_only (setting (choice (num 0) (num 2) faulty)) Divide
unfolding working
only_what_they_need = (refl, refl, refl, refl, refl, refl, refl, refl)
