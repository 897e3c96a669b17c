-- Document 01, "How it moves": "Executable: an expression when not 0; .. all others always", "Storing keeps low bits", "`goto` and `break` are steps of their own (H)", "(an ended option
-- leads past `fi`, or back to `do`)". Each form of statement on both sides, computed. Sends and receives are in specs/ExamplesChannels.antt, `run` in specs/ExamplesProcesses.antt, guards,
-- `else` and `timeout` in specs/ExamplesSelections.antt, what `printf` writes in specs/ExamplesPrinted.antt.
use Rattle.std.specs.Prelude.{ℕ, ◌≡◌, refl, [], ◌∷◌, pos}
use Rattle.base_kinds.specs.Kinds.{bytes}
use Rattle.base_values.specs.declared.Fault.TheVariants.{Divide}
use Rattle.base_outcome.specs.declared.Taken.TheVariants.{Done, Idle}
use Rattle.spec_grammar.specs.Tree.{Name, plain, num, tru, fls, leaf, express, assign, increment, decrement, assert, print, skip, goto, break, timeout, select, loop, bare, labelled, end, then, over, option, unset, set_number, body, init, Model}
use Rattle.spec_machine.specs.State.{State}
use Rattle.spec_machine.specs.Begins.{initial}
use Rattle.spec_machine.specs.Machine.{offered, advance}
use Rattle.spec_machine.specs.Steps.{machine_of}
use Rattle.spec_machine.specs.ExamplesWords.{working, x, minus, bit, bool, byte, short, int, neg, faulty, line, either, again, scalar, main, state, process_at, one, offer, taken, Leaves, Faults, Refutes, Waits}

-- ## an expression "when not 0"
expressions : Leaves [] (leaf (express (num 1))) [] × Leaves [] (leaf (express (neg (num 1)))) [] × Waits [] (leaf (express (num 0))) × Leaves [] (leaf (express tru)) [] × Waits [] (leaf (express fls))
unfolding working
expressions = (refl, refl, refl, refl, refl)

-- ## assignments: "bit and bool 1, byte, mtype, pid and chan 8 unsigned, short 16 signed"
stores : Leaves (scalar byte x unset ∷ []) (leaf (assign (plain x) (num 300))) (one (pos 44) ∷ [])
    × Leaves (scalar byte x unset ∷ []) (leaf (assign (plain x) (neg (num 1)))) (one (pos 255) ∷ [])
    × Leaves (scalar bit x unset ∷ []) (leaf (assign (plain x) (num 2))) (one (pos 0) ∷ [])
    × Leaves (scalar bool x unset ∷ []) (leaf (assign (plain x) (num 3))) (one (pos 1) ∷ [])
    × Leaves (scalar short x unset ∷ []) (leaf (assign (plain x) (num 40000))) (one (minus 25536) ∷ [])
    × Leaves (scalar int x unset ∷ []) (leaf (assign (plain x) (num 40000))) (one (pos 40000) ∷ [])
unfolding working
stores = (refl, refl, refl, refl, refl, refl)

-- ## `x++`, `x--`, also past the ends of a type
counts : Leaves (scalar byte x (set_number 254) ∷ []) (leaf (increment (plain x))) (one (pos 255) ∷ [])
    × Leaves (scalar byte x (set_number 255) ∷ []) (leaf (increment (plain x))) (one (pos 0) ∷ [])
    × Leaves (scalar byte x (set_number 1) ∷ []) (leaf (decrement (plain x))) (one (pos 0) ∷ [])
    × Leaves (scalar byte x (set_number 0) ∷ []) (leaf (decrement (plain x))) (one (pos 255) ∷ [])
    × Leaves (scalar int x (set_number 2147483647) ∷ []) (leaf (increment (plain x))) (one (minus 2147483648) ∷ [])
unfolding working
counts = (refl, refl, refl, refl, refl)

-- ## an assertion of 0 fails; a fault in it is a fault, no failed assertion; both change nothing
assertions : Leaves [] (leaf (assert (num 1))) [] × Leaves [] (leaf (assert (neg (num 1)))) [] × Refutes [] (leaf (assert (num 0))) × Faults [] (leaf (assert faulty)) Divide
unfolding working
assertions = (refl, refl, refl, refl)

-- ## "all others always": `skip`, `printf`; a `timeout` where nothing else is
always : Leaves [] (leaf skip) [] × Leaves [] (leaf (print (bytes "x") [])) [] × Leaves [] (leaf timeout) []
unfolding working
always = (refl, refl, refl)

-- ## where control goes; the items of `init{` end before place 2, and no variable is declared
abbrev at : ℕ → State
at j = state [] (process_at 0 j [] ∷ []) []

abbrev L : Name
L = bytes "L"

-- `init{skip;skip}`: 2, 3, the end 4
abbrev twice : Model
twice = main [] (leaf skip ∷ leaf skip ∷ []) ∷ []

in_turn : (taken twice 0 1 (at 2) ≡ (Done, at 3)) × (taken twice 0 1 (at 3) ≡ (Done, at 4)) × (offered (machine_of twice) (at 4) ≡ [])
unfolding working
in_turn = (refl, refl, refl)

-- `init{goto L;skip;L:skip}`: 2, 4, 7; the step leads behind the label
abbrev forward : Model
forward = init (body [] (then (bare (leaf (goto L))) (then (bare (leaf skip)) (then (labelled L (leaf skip)) end)))) ∷ []

goes-forward : taken forward 0 1 (at 2) ≡ (Done, at 7)
unfolding working
goes-forward = refl

-- `init{L:skip;goto L}`: 4, 5
abbrev backward : Model
backward = init (body [] (then (labelled L (leaf skip)) (then (bare (leaf (goto L))) end))) ∷ []

goes_back : (initial backward ≡ at 4) × (taken backward 0 1 (at 5) ≡ (Done, at 4))
unfolding working
goes_back = (refl, refl)

-- `init{goto L;if::L:0::1 fi}`: 2, the `if` 4, `0` 8, `1` 12. Behind the `goto` that statement alone is tried, and it waits
abbrev inside : Model
inside = init (body [] (then (bare (leaf (goto L))) (then (bare (select (option (then (labelled L (leaf (express (num 0)))) end) (option (line (leaf (express (num 1)) ∷ [])) over)))) end))) ∷ []

goes-inside : (taken inside 0 1 (at 2) ≡ (Done, at 8)) × (offered (machine_of inside) (at 8) ≡ []) × (offered (machine_of inside) (at 4) ≡ offer 0 1 12 ∷ [])
unfolding working
goes-inside = (refl, refl, refl)

-- `init{goto L;x:do::0::L:skip od}`: 2, the `do` 6, `0` 8, behind L 14. Labels are found in loops, in later options and in what has a label itself
abbrev anywhere : Model
anywhere = init (body [] (then (bare (leaf (goto L))) (then (labelled x (loop (option (line (leaf (express (num 0)) ∷ [])) (option (then (labelled L (leaf skip)) end) over)))) end))) ∷ []

goes-anywhere : (taken anywhere 0 1 (at 2) ≡ (Done, at 14)) × (taken anywhere 0 1 (at 14) ≡ (Done, at 6)) × (offered (machine_of anywhere) (at 6) ≡ offer 0 1 14 ∷ [])
unfolding working
goes-anywhere = (refl, refl, refl)

-- `init{if::skip;skip::skip fi;skip}`: the `if` 2, 4, 5, 8, behind `fi` 11
abbrev branches : Model
branches = main [] (either ((leaf skip ∷ leaf skip ∷ []) ∷ (leaf skip ∷ []) ∷ []) ∷ leaf skip ∷ []) ∷ []

-- the `if` is no step; "an ended option leads past `fi`"
past_fi : (offered (machine_of branches) (at 2) ≡ offer 0 1 4 ∷ offer 0 2 8 ∷ []) × (taken branches 0 1 (at 2) ≡ (Done, at 5)) × (taken branches 0 1 (at 5) ≡ (Done, at 11))
    × (taken branches 0 2 (at 2) ≡ (Done, at 11)) × (taken branches 0 3 (at 2) ≡ (Idle, at 2)) × (advance (machine_of branches) (at 2) (offer 0 1 2) ≡ (Idle, at 2))
unfolding working
past_fi = (refl, refl, refl, refl, refl, refl)

-- `init{do::skip::break od;skip}`: the `do` 2, 4, 7, behind `od` 10
abbrev loops : Model
loops = main [] (again ((leaf skip ∷ []) ∷ (leaf break ∷ []) ∷ []) ∷ leaf skip ∷ []) ∷ []

-- an ended option leads "back to `do`", `break` past `od`
back_to_do : (taken loops 0 1 (at 2) ≡ (Done, at 2)) × (taken loops 0 2 (at 2) ≡ (Done, at 10)) × (advance (machine_of loops) (at 2) (offer 0 1 2) ≡ (Idle, at 2))
unfolding working
back_to_do = (refl, refl, refl)

-- `init{do::do::break od;if::break fi od;skip}`: the outer `do` 2, the inner 4, its `break` 6, the `if` 9, its `break` 11, behind the outer `od` 16. Each `break` leaves its own loop, and no `if`
abbrev inner : Model
inner = main [] (again ((again ((leaf break ∷ []) ∷ []) ∷ either ((leaf break ∷ []) ∷ []) ∷ []) ∷ []) ∷ leaf skip ∷ []) ∷ []

own_loop : (taken inner 0 1 (at 2) ≡ (Done, at 9)) × (taken inner 0 1 (at 9) ≡ (Done, at 16))
unfolding working
own_loop = (refl, refl)
