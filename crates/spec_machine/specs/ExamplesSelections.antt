-- Document 01, "How it moves": "`else` when no other option of its selection is; `if` and `do`, themselves no steps, when an option's first statement is", "`else` and all the rest are judged
-- with `timeout` not executable; it is executable exactly where nothing then is, in any process. Offered steps are listed by process number, then text order"; "Tempting slips: .. letting
-- `else` pass beside a faulting guard". Computed. A step is its process, its number there, and its place: that of the statement.
use Rattle.std.specs.Prelude.{ℕ, ◌≡◌, refl, List, [], ◌∷◌, pos}
use Rattle.base_outcome.specs.declared.Taken.TheVariants.{Done}
use Rattle.spec_grammar.specs.Tree.{Expr, action, Tree, plain, num, leaf, express, decrement, skip, break, timeout, else, set_number, Model}
use Rattle.spec_machine.specs.State.{State}
use Rattle.spec_machine.specs.Begins.{initial}
use Rattle.spec_machine.specs.Machine.{Step, offered}
use Rattle.spec_machine.specs.Steps.{machine_of}
use Rattle.spec_machine.specs.ExamplesWords.{working, P, Q, x, byte, greater, faulty, of, either, again, scalar, main, active, state, process_at, one, offer, taken}

-- what is offered at the start
abbrev starts : Model → List Step
starts t = offered (machine_of t) (initial t)

abbrev alone : Tree action → List Step
alone s = starts (main [] (s ∷ []) ∷ [])

abbrev guard : Expr → List (Tree action)
guard e = leaf (express e) ∷ []

-- ## `init{if::E::else fi}`: E has place 4; 8 is the place of `else` behind `0` and `1`, and 10 behind `1/0`
else_or_not : (alone (either (guard (num 0) ∷ (leaf else ∷ []) ∷ [])) ≡ offer 0 1 8 ∷ []) × (alone (either (guard (num 1) ∷ (leaf else ∷ []) ∷ [])) ≡ offer 0 1 4 ∷ [])
    × (alone (either (guard faulty ∷ (leaf else ∷ []) ∷ [])) ≡ offer 0 1 4 ∷ [])
unfolding working
else_or_not = (refl, refl, refl)

-- `else` first, `if::else::0 fi` and `if::else::1 fi`: `else` has place 4, the guard 7
else_first : (alone (either ((leaf else ∷ []) ∷ guard (num 0) ∷ [])) ≡ offer 0 1 4 ∷ []) × (alone (either ((leaf else ∷ []) ∷ guard (num 1) ∷ [])) ≡ offer 0 1 7 ∷ [])
unfolding working
else_first = (refl, refl)

-- no option, no step: `if::0::0 fi`; two, in text order: `if::1::0::1 fi`
text_order : (alone (either (guard (num 0) ∷ guard (num 0) ∷ [])) ≡ []) × (alone (either (guard (num 1) ∷ guard (num 0) ∷ guard (num 1) ∷ [])) ≡ offer 0 1 4 ∷ offer 0 2 12 ∷ [])
unfolding working
text_order = (refl, refl)

-- ## a selection as an option's first statement
-- `if::if::1::1 fi::1 fi`: flat, in text order
flat : alone (either ((either (guard (num 1) ∷ guard (num 1) ∷ []) ∷ []) ∷ guard (num 1) ∷ [])) ≡ offer 0 1 6 ∷ offer 0 2 10 ∷ offer 0 3 16 ∷ []
unfolding working
flat = refl

-- `if::if::0::else fi::else fi`: the inner `else` is judged in the inner selection, and the outer one beside it is not executable; `if::if::0 fi::else fi`: it is
inner_else : (alone (either ((either (guard (num 0) ∷ (leaf else ∷ []) ∷ []) ∷ []) ∷ (leaf else ∷ []) ∷ [])) ≡ offer 0 1 10 ∷ [])
    × (alone (either ((either (guard (num 0) ∷ []) ∷ []) ∷ (leaf else ∷ []) ∷ [])) ≡ offer 0 1 12 ∷ [])
    × (alone (either ((either (guard faulty ∷ (leaf else ∷ []) ∷ []) ∷ []) ∷ (leaf else ∷ []) ∷ [])) ≡ offer 0 1 6 ∷ [])
unfolding working
inner_else = (refl, refl, refl)

-- `if::if::0::else fi::1 fi`: the inner `else` and the outer guard
both_else : alone (either ((either (guard (num 0) ∷ (leaf else ∷ []) ∷ []) ∷ []) ∷ guard (num 1) ∷ [])) ≡ offer 0 1 10 ∷ offer 0 2 15 ∷ []
unfolding working
both_else = refl

-- `if::0;1::1;0 fi`: the first statement of an option alone is tried
first-only : alone (either ((leaf (express (num 0)) ∷ leaf (express (num 1)) ∷ []) ∷ (leaf (express (num 1)) ∷ leaf (express (num 0)) ∷ []) ∷ [])) ≡ offer 0 1 10 ∷ []
unfolding working
first-only = refl

-- ## `init{byte x=1;do::x>0;x--::else;break od}`: the `do` 8, the guard 10, `x--` 15, `else` 20, `break` 21, the end 24
abbrev counting : Model
counting = main (scalar byte x (set_number 1) ∷ []) (again ((leaf (express (greater (of x) (num 0))) ∷ leaf (decrement (plain x)) ∷ []) ∷ (leaf else ∷ leaf break ∷ []) ∷ []) ∷ []) ∷ []

abbrev counted : ℕ → ℕ → State
counted j v = state [] (process_at 0 j (one (pos v) ∷ []) ∷ []) []

rounds : (initial counting ≡ counted 8 1) × (taken counting 0 1 (counted 8 1) ≡ (Done, counted 15 1)) × (taken counting 0 1 (counted 15 1) ≡ (Done, counted 8 0))
    × (offered (machine_of counting) (counted 8 0) ≡ offer 0 1 20 ∷ []) × (taken counting 0 1 (counted 8 0) ≡ (Done, counted 21 0)) × (taken counting 0 1 (counted 21 0) ≡ (Done, counted 24 0))
unfolding working
rounds = (refl, refl, refl, refl, refl, refl)

-- ## `timeout`: `active proctype P(){timeout}active proctype Q(){S}`: P stands at 3, Q at 8
abbrev beside : Tree action → Model
beside s = active P [] (leaf timeout ∷ []) ∷ active Q [] (s ∷ []) ∷ []

-- Q can move, and P waits; Q cannot, and P can; both have a `timeout`; a test that faults is executable
timeouts : (starts (beside (leaf (express (num 1)))) ≡ offer 1 1 8 ∷ []) × (starts (beside (leaf (express (num 0)))) ≡ offer 0 1 3 ∷ []) × (starts (beside (leaf timeout)) ≡ offer 0 1 3 ∷ offer 1 1 8 ∷ [])
    × (starts (beside (leaf (express faulty))) ≡ offer 1 1 8 ∷ [])
unfolding working
timeouts = (refl, refl, refl, refl)

-- Q is ended, at 9: nothing else is executable
after_end : offered (machine_of (beside (leaf skip))) (state [] (process_at 0 3 [] ∷ process_at 1 9 [] ∷ []) []) ≡ offer 0 1 3 ∷ []
unfolding working
after_end = refl

-- "in any process": P has a `timeout`, Q waits, and a third, the last, can move or waits; its statement is at 13
abbrev third : Expr → Model
third e = active P [] (leaf timeout ∷ []) ∷ active Q [] (leaf (express (num 0)) ∷ []) ∷ main [] (leaf (express e) ∷ []) ∷ []

any-process : (starts (third (num 1)) ≡ offer 2 1 13 ∷ []) × (starts (third (num 0)) ≡ offer 0 1 3 ∷ [])
unfolding working
any-process = (refl, refl)

-- in a selection: `if::0::timeout fi` is executable, `if::1::timeout fi` by its guard alone; `if::timeout::else fi` by its `else`, which is judged with `timeout` not executable
timeout_options : (alone (either (guard (num 0) ∷ (leaf timeout ∷ []) ∷ [])) ≡ offer 0 1 8 ∷ []) × (alone (either (guard (num 1) ∷ (leaf timeout ∷ []) ∷ [])) ≡ offer 0 1 4 ∷ [])
    × (alone (either ((leaf timeout ∷ []) ∷ (leaf else ∷ []) ∷ [])) ≡ offer 0 1 7 ∷ [])
unfolding working
timeout_options = (refl, refl, refl)

-- that `else` of Q keeps P's `timeout` back: `if::timeout::else fi` begins at 8, its `else` is at 13
else_before_timeout : starts (beside (either ((leaf timeout ∷ []) ∷ (leaf else ∷ []) ∷ []))) ≡ offer 1 1 13 ∷ []
unfolding working
else_before_timeout = refl

-- ## "listed by process number, then text order": `active proctype P(){if::1::1 fi}active proctype Q(){if::1::1 fi}`
abbrev pairs : Tree action
pairs = either (guard (num 1) ∷ guard (num 1) ∷ [])

listed : starts (active P [] (pairs ∷ []) ∷ active Q [] (pairs ∷ []) ∷ []) ≡ offer 0 1 5 ∷ offer 0 2 9 ∷ offer 1 1 19 ∷ offer 1 2 23 ∷ []
unfolding working
listed = refl
