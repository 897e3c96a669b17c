-- Document 01, "Names": "a local hides any of them from its own name on", and "`len(c)`, `_pid` and mtype names are operands". What names mean, computed.
use Rattle.std.specs.Prelude.{ℕ, ◌≡◌, refl, List, [], ◌∷◌, ℤ, pos}
use Rattle.base_outcome.specs.declared.Taken.TheVariants.{Done}
use Rattle.spec_text.specs.Names as text
use Rattle.spec_grammar.specs.Marks.{k_ask}
use Rattle.spec_grammar.specs.Tree.{plain, num, into, leaf, assign, receive, skip, unset, set_number, set_name, Declaration, group, body, once, mtypes, global, process, Model}
use Rattle.spec_machine.specs.State.{State}
use Rattle.spec_machine.specs.Names.{variables_of}
use Rattle.spec_machine.specs.Begins.{initial}
use Rattle.spec_machine.specs.Machine.{offered}
use Rattle.spec_machine.specs.Steps.{machine_of}
use Rattle.spec_machine.specs.Places.{start_of, end_of}
use Rattle.spec_machine.specs.ExamplesWords.{working, a, b, c, m, n, P, Q, x, y, byte, int, sum, of, line, scalar, array, channel, main, active, proctype, state, process_at, channel_of, one, taken}

-- ## `mtype={m};byte x=3;init{LOCALS;y=m+x}`
abbrev adds : List Declaration → Model
adds ds = mtypes (m ∷ []) ∷ global (scalar byte x (set_number 3)) ∷ main (scalar byte y unset ∷ ds) (leaf (assign (plain y) (sum (of m) (of x))) ∷ []) ∷ []

abbrev added : List Declaration → List (List ℤ) → State
added ds vs = state (one (pos 3) ∷ []) (process_at 2 (end_of (adds ds) 2) vs ∷ []) []

-- no local: m is the mtype name 1, x the global 3; a local `byte x=7`; a local `byte m=5`; both
hides : (taken (adds []) 0 1 (initial (adds [])) ≡ (Done, added [] (one (pos 4) ∷ [])))
    × (taken (adds (scalar byte x (set_number 7) ∷ [])) 0 1 (initial (adds (scalar byte x (set_number 7) ∷ []))) ≡ (Done, added (scalar byte x (set_number 7) ∷ []) (one (pos 8) ∷ one (pos 7) ∷ [])))
    × (taken (adds (scalar byte m (set_number 5) ∷ [])) 0 1 (initial (adds (scalar byte m (set_number 5) ∷ []))) ≡ (Done, added (scalar byte m (set_number 5) ∷ []) (one (pos 8) ∷ one (pos 5) ∷ [])))
unfolding working
hides = (refl, refl, refl)

-- ## `byte x=3;init{byte x=7;x=9}`: the local is stored to, the global stays; with no local it is stored to
abbrev stores : List Declaration → Model
stores ds = global (scalar byte x (set_number 3)) ∷ main ds (leaf (assign (plain x) (num 9)) ∷ []) ∷ []

stored_to : (taken (stores (scalar byte x (set_number 7) ∷ [])) 0 1 (initial (stores (scalar byte x (set_number 7) ∷ [])))
    ≡ (Done, state (one (pos 3) ∷ []) (process_at 1 (end_of (stores (scalar byte x (set_number 7) ∷ [])) 1) (one (pos 9) ∷ []) ∷ []) []))
    × (taken (stores []) 0 1 (initial (stores [])) ≡ (Done, state (one (pos 9) ∷ []) (process_at 1 (end_of (stores []) 1) [] ∷ []) []))
unfolding working
stored_to = (refl, refl)

-- ## "from its own name on": `mtype={m};init{byte y=m;byte m=5;y=m}`: y starts as the mtype name, 1, and gets the local, 5
abbrev later : Model
later = mtypes (m ∷ []) ∷ main (scalar byte y (set_name m) ∷ scalar byte m (set_number 5) ∷ []) (leaf (assign (plain y) (of m)) ∷ []) ∷ []

abbrev later_at : ℕ → ℕ → State
later_at j v = state [] (process_at 1 j (one (pos v) ∷ one (pos 5) ∷ []) ∷ []) []

from_its_name_on : (initial later ≡ later_at (start_of later 1) 1) × (taken later 0 1 (initial later) ≡ (Done, later_at (end_of later 1) 5))
unfolding working
from_its_name_on = (refl, refl)

-- ## a local belongs to its body: `byte x=3;active proctype P(){byte x=7;x=9}active proctype Q(){byte y;y=x}`
abbrev apart : Model
apart = global (scalar byte x (set_number 3)) ∷ active P (scalar byte x (set_number 7) ∷ []) (leaf (assign (plain x) (num 9)) ∷ []) ∷ active Q (scalar byte y unset ∷ []) (leaf (assign (plain y) (of x)) ∷ []) ∷ []

other_body : taken apart 1 1 (initial apart)
    ≡ (Done, state (one (pos 3) ∷ []) (process_at 1 (start_of apart 1) (one (pos 7) ∷ []) ∷ process_at 2 (end_of apart 2) (one (pos 3) ∷ []) ∷ []) [])
unfolding working
other_body = refl

-- ## a parameter hides too, and comes before the locals: `byte a=3;active proctype P(byte a){byte b=7;b=a+b}`
abbrev given : Model
given = global (scalar byte a (set_number 3)) ∷ process once P (group byte (a ∷ []) ∷ []) (body (scalar byte b (set_number 7) ∷ []) (line (leaf (assign (plain b) (sum (of a) (of b))) ∷ []))) ∷ []

abbrev given_at : ℕ → ℕ → ℕ → State
given_at j v w = state (one (pos 3) ∷ []) (process_at 1 j (one (pos v) ∷ one (pos w) ∷ []) ∷ []) []

parameter_hides : (taken given 0 1 (initial given) ≡ (Done, given_at (end_of given 1) 0 7)) × (taken given 0 1 (given_at (start_of given 1) 2 7) ≡ (Done, given_at (end_of given 1) 2 9))
unfolding working
parameter_hides = (refl, refl)

-- ## `mtype={n,m};init{chan c=[1]of{byte};LOCALS;c?m}` where 9 waits: an mtype name is compared, a local that hides it is stored to
abbrev asks : List Declaration → Model
asks ds = mtypes (n ∷ m ∷ []) ∷ main (channel c 1 (byte ∷ []) ∷ ds) (leaf (receive k_ask (plain c) (into (plain m) ∷ [])) ∷ []) ∷ []

abbrev asked_at : ℕ → List (List ℤ) → List (List ℤ) → State
asked_at j vs l = state [] (process_at 1 j (one (pos 1) ∷ vs) ∷ []) (channel_of 1 0 l ∷ [])

abbrev hidden : Model
hidden = asks (scalar byte m unset ∷ [])

compared_or_stored : (offered (machine_of (asks [])) (asked_at (start_of (asks []) 1) [] (one (pos 9) ∷ [])) ≡ [])
    × (taken (asks []) 0 1 (asked_at (start_of (asks []) 1) [] (one (pos 2) ∷ [])) ≡ (Done, asked_at (end_of (asks []) 1) [] []))
    × (taken hidden 0 1 (asked_at (start_of hidden 1) (one (pos 0) ∷ []) (one (pos 9) ∷ [])) ≡ (Done, asked_at (end_of hidden 1) (one (pos 9) ∷ []) []))
unfolding working
compared_or_stored = (refl, refl, refl)

-- ## `_pid` is the process's own number: `active[2]` of them, each with `byte x;x=_pid`
abbrev selves : Model
selves = active P (scalar byte x unset ∷ []) (leaf (assign (plain x) (of text.pid)) ∷ []) ∷ active Q (scalar byte x unset ∷ []) (leaf (assign (plain x) (of text.pid)) ∷ []) ∷ []

own_number : taken selves 1 1 (initial selves) ≡ (Done, state [] (process_at 0 (start_of selves 0) (one (pos 0) ∷ []) ∷ process_at 1 (end_of selves 1) (one (pos 1) ∷ []) ∷ []) [])
unfolding working
own_number = refl

-- ## `proctype P(byte a){int b[2]=7;skip}`: a parameter is one number, with no value of its own
declared : variables_of (proctype P (group byte (a ∷ []) ∷ []) (array int b 2 (set_number 7) ∷ []) (leaf skip ∷ []))
    ≡ record { name = a; type = byte; size = 1; value = unset } ∷ record { name = b; type = int; size = 2; value = set_number 7 } ∷ []
declared = refl
