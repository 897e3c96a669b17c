-- Document 01, "How it moves": "Variables start at 0 or their value; every element of an array gets it. mtype names count from 1 in list order (H). Channels count from 1 as made, globals
-- first", "Processes start in text order (`init` included) at 0; a new one takes the next number"; parameters "of an `active` process start at 0 (002). `active [0]` starts none". Initial
-- states, computed whole.
use Rattle.std.specs.Prelude.{ℕ, ◌≡◌, refl, List, [], ◌∷◌, ℤ, pos}
use Rattle.std.proofs.Math.Option.{none, some}
use Rattle.spec_grammar.specs.Tree.{labelled, end, then, leaf, skip, unset, set_number, set_minus, set_true, set_false, set_name, set_channel, variable, Declaration, declare, group, body, once, times, mtypes, global, process, init, Model}
use Rattle.spec_machine.specs.Begins.{initial}
use Rattle.spec_machine.specs.Places.{start_of}
use Rattle.spec_machine.specs.ExamplesWords.{working, a, b, c, d, m, n, P, x, y, minus, bit, bool, byte, mtype, chan, short, int, line, scalar, array, channel, main, active, proctype, state, process_at, channel_of, one}

-- ## values: `init{DECLARATIONS;skip}` begins with these
abbrev Starts : List Declaration → List (List ℤ) → Type 0
Starts ds vs = initial (main ds (leaf skip ∷ []) ∷ []) ≡ state [] (process_at 0 (start_of (main ds (leaf skip ∷ []) ∷ []) 0) vs ∷ []) []

-- "Variables start at 0 or their value", and a value is stored as any other
scalars : Starts (scalar int x unset ∷ []) (one (pos 0) ∷ []) × Starts (scalar int x (set_number 7) ∷ []) (one (pos 7) ∷ []) × Starts (scalar int x (set_minus 7) ∷ []) (one (minus 7) ∷ [])
    × Starts (scalar byte x (set_number 300) ∷ []) (one (pos 44) ∷ []) × Starts (scalar byte x (set_minus 1) ∷ []) (one (pos 255) ∷ [])
    × Starts (scalar bit x (set_number 2) ∷ []) (one (pos 0) ∷ []) × Starts (scalar short x (set_number 40000) ∷ []) (one (minus 25536) ∷ [])
    × Starts (scalar bool x set_true ∷ []) (one (pos 1) ∷ []) × Starts (scalar bool x set_false ∷ []) (one (pos 0) ∷ [])
unfolding working
scalars = (refl, refl, refl, refl, refl, refl, refl, refl, refl)

-- "every element of an array gets it": `byte a[3]=300`, `byte a[1]`, and several names of one type, `int x=1,a[2],y=3`
arrays : Starts (array byte a 3 (set_number 300) ∷ []) ((pos 44 ∷ pos 44 ∷ pos 44 ∷ []) ∷ []) × Starts (array byte a 1 unset ∷ []) (one (pos 0) ∷ [])
    × Starts (declare int (variable x none (set_number 1) ∷ variable a (some 2) unset ∷ variable y none (set_number 3) ∷ []) ∷ []) (one (pos 1) ∷ (pos 0 ∷ pos 0 ∷ []) ∷ one (pos 3) ∷ [])
unfolding working
arrays = (refl, refl, refl)

-- "mtype names count from 1 in list order": `mtype={m,n,x};mtype a=m;mtype b=n;byte c=x;init{skip}`
messages : initial (mtypes (m ∷ n ∷ x ∷ []) ∷ global (scalar mtype a (set_name m)) ∷ global (scalar mtype b (set_name n)) ∷ global (scalar byte c (set_name x)) ∷ main [] (leaf skip ∷ []) ∷ [])
    ≡ state (one (pos 1) ∷ one (pos 2) ∷ one (pos 3) ∷ []) (process_at 4 27 [] ∷ []) []
unfolding working
messages = refl

-- ## channels: `chan c=[1]of{byte}` is channel 1, `chan d` is no channel, `chan a[2]=1` names it twice
abbrev three_chans : List Declaration
three_chans = channel c 1 (byte ∷ []) ∷ scalar chan d unset ∷ array chan a 2 (set_number 1) ∷ []

channels : initial (main three_chans (leaf skip ∷ []) ∷ []) ≡ state [] (process_at 0 22 (one (pos 1) ∷ one (pos 0) ∷ (pos 1 ∷ pos 1 ∷ []) ∷ []) ∷ []) (channel_of 0 0 [] ∷ [])
unfolding working
channels = refl

-- `active[2]proctype P(){chan d=[1]of{int};skip}chan c=[1]of{byte};init{chan d=[1]of{int};skip}`: the global one is 1 though it stands behind P, then those of the processes, 2, 3 and 4
abbrev counted : Model
counted = process (times 2) P [] (body (channel d 1 (int ∷ []) ∷ []) (line (leaf skip ∷ []))) ∷ global (channel c 1 (byte ∷ [])) ∷ main (channel d 1 (int ∷ []) ∷ []) (leaf skip ∷ []) ∷ []

globals_first : initial counted
    ≡ state (one (pos 1) ∷ []) (process_at 0 12 (one (pos 2) ∷ []) ∷ process_at 0 12 (one (pos 3) ∷ []) ∷ process_at 2 32 (one (pos 4) ∷ []) ∷ [])
    (channel_of 1 0 [] ∷ channel_of 0 0 [] ∷ channel_of 0 0 [] ∷ channel_of 2 0 [] ∷ [])
unfolding working
globals_first = refl

-- `byte x;chan c=[1]of{byte},d=[2]of{int};init{skip}`: two of one declaration
of_one_declaration : initial
    (global (scalar byte x unset) ∷ global (declare chan (variable c none (set_channel 1 (byte ∷ [])) ∷ variable d none (set_channel 2 (int ∷ [])) ∷ [])) ∷ main [] (leaf skip ∷ []) ∷ [])
    ≡ state (one (pos 0) ∷ one (pos 1) ∷ one (pos 2) ∷ []) (process_at 2 20 [] ∷ []) (channel_of 1 0 [] ∷ channel_of 1 1 [] ∷ [])
unfolding working
of_one_declaration = refl

-- ## processes in text order, `init` among them: `init{skip}active proctype P(){skip}`, and the other way round
text_order : (initial (main [] (leaf skip ∷ []) ∷ active P [] (leaf skip ∷ []) ∷ []) ≡ state [] (process_at 0 2 [] ∷ process_at 1 7 [] ∷ []) [])
    × (initial (active P [] (leaf skip ∷ []) ∷ main [] (leaf skip ∷ []) ∷ []) ≡ state [] (process_at 0 3 [] ∷ process_at 1 7 [] ∷ []) [])
unfolding working
text_order = (refl, refl)

-- `active[0]proctype P(){skip}`, `proctype P(){skip}` start none, `active[1]proctype P(){skip}` one, `active[2]` two
abbrev many : ℕ → Model
many k = process (times k) P [] (body [] (line (leaf skip ∷ []))) ∷ []

how_many : (initial (many 0) ≡ state [] [] []) × (initial (many 1) ≡ state [] (process_at 0 4 [] ∷ []) []) × (initial (many 2) ≡ state [] (process_at 0 4 [] ∷ process_at 0 4 [] ∷ []) [])
    × (initial (proctype P [] [] (leaf skip ∷ []) ∷ []) ≡ state [] [] [])
unfolding working
how_many = (refl, refl, refl, refl)

-- `active proctype P(byte a;int b){int x=5;skip}`: parameters "start at 0", and come before the locals
parameters : initial (process once P (group byte (a ∷ []) ∷ group int (b ∷ []) ∷ []) (body (scalar int x (set_number 5) ∷ []) (line (leaf skip ∷ []))) ∷ [])
    ≡ state [] (process_at 0 17 (one (pos 0) ∷ one (pos 0) ∷ one (pos 5) ∷ []) ∷ []) []
unfolding working
parameters = refl

-- `init{x:skip}`: a process stands behind the label of its first statement
behind_label : initial (init (body [] (then (labelled x (leaf skip)) end)) ∷ []) ≡ state [] (process_at 0 4 [] ∷ []) []
unfolding working
behind_label = refl
