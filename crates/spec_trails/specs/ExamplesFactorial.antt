-- Document 01, "By program: 001's factorial with its channel declared at the body's start prints `result: 479001600` and makes 13 processes". The whole run, computed.
use Rattle.std.specs.Prelude.{ℕ, ◌≡◌, refl, [], ◌∷◌, length}
use Rattle.base_kinds.specs.Kinds.{bytes}
use Rattle.spec_grammar.specs.Marks.{k_bang, k_ask}
use Rattle.spec_grammar.specs.Tree.{Name, plain, num, binary, into, leaf, express, send, receive, print, run, unset, group, Model}
use Rattle.spec_machine.specs.State.{State}
use Rattle.spec_machine.specs.Begins.{initial}
use Rattle.spec_machine.specs.Machine.{finished, «open», offered}
use Rattle.spec_machine.specs.Steps.{machine_of}
use Rattle.spec_machine.specs.ExamplesWords.{working, chan, int, of, either, scalar, channel, main, proctype, offer}
use Rattle.spec_trails.specs.Runs.{Ran, stood, run_from}

abbrev fact : Name
fact = bytes "fact"

abbrev n : Name
n = bytes "n"

abbrev p : Name
p = bytes "p"

abbrev child : Name
child = bytes "child"

abbrev result : Name
result = bytes "result"

-- `proctype fact(int n;chan p){chan child=[1]of{int};int result;if::n<=1;p!1::n>=2;run fact(n-1,child);child?result;p!n*result fi}`
-- `init{int result;chan child=[1]of{int};run fact(12,child);child?result;printf("result: %d\n",result)}`
abbrev factorial : Model
factorial =
    proctype fact (group int (n ∷ []) ∷ group chan (p ∷ []) ∷ []) (channel child 1 (int ∷ []) ∷ scalar int result unset ∷ [])
    (either
    ((leaf (express (binary 9 (of n) (num 1))) ∷ leaf (send k_bang (plain p) (num 1 ∷ [])) ∷ []) ∷
    (leaf (express (binary 11 (of n) (num 2))) ∷ leaf (run fact (binary 15 (of n) (num 1) ∷ of child ∷ [])) ∷ leaf (receive k_ask (plain child) (into (plain result) ∷ [])) ∷ leaf (send k_bang (plain p) (binary 16 (of n) (of result) ∷ [])) ∷ []) ∷ []) ∷ []) ∷
    main (scalar int result unset ∷ channel child 1 (int ∷ []) ∷ [])
    (leaf (run fact (num 12 ∷ of child ∷ [])) ∷ leaf (receive k_ask (plain child) (into (plain result) ∷ [])) ∷ leaf (print (bytes "result: %d\\n") (of result ∷ [])) ∷ []) ∷ []

abbrev after : ℕ → Ran State
after k = run_from (machine_of factorial) k (initial factorial)

-- 49 steps: three of `init`, two of the last process, four of each other
ends : ((after 99).ending ≡ stood finished) × ((after 99).count ≡ 49) × (length (after 99).state.processes ≡ 13)
unfolding working run_from
ends = (refl, refl, refl)

-- the last of them, at place 103, prints the result
prints : ((after 48).ending ≡ stood «open») × (offered (machine_of factorial) (after 48).state ≡ offer 0 1 103 ∷ []) × ((machine_of factorial).printed (after 48).state (offer 0 1 103) ≡ bytes "result: 479001600\n")
unfolding working run_from
prints = (refl, refl, refl)
