-- Worked examples of layouts, computed: every kind of line, a label on a selection, selections inside selections, an empty list of parameters, and a space that is kept within a line.
use Rattle.std.specs.Prelude.{ℕ, ◌≡◌, refl, List, [], ◌∷◌, ◌++◌}
use Rattle.std.proofs.Math.Option.{none, some}
use Rattle.base_kinds.specs.Kinds.{bytes}
use Rattle.base_bytes.specs.Lists.{same}
use Rattle.spec_text.specs.Find.{find}
use Rattle.spec_text.specs.Formats.{digits_by}
use Rattle.spec_text.specs.Writing.{write_behind}
use Rattle.spec_grammar.specs.Tree.{Name, num, get, plain, unary, binary, leaf, express, assign, skip, else, break, run, select, loop, bare, labelled, end, then, over, option}
use Rattle.spec_grammar.specs.Tree.{unset, set_number, set_channel, variable, declare, group, body, idle, once, times, mtypes, global, process, init, Model}
use Rattle.spec_layout.specs.Layout.{layout}

-- a line of its own, and its end
abbrev ln : List ℕ → List ℕ
ln s = s ++ 10 ∷ []

abbrev a : Name
a = bytes "a"

abbrev b : Name
b = bytes "b"

abbrev c : Name
c = bytes "c"

-- `mtype`, `byte`, `chan`, `int`; `-`, `>`
units : Model
units =
    mtypes (a ∷ b ∷ []) ∷ global (declare 45 (variable (bytes "x") none (set_number 3) ∷ variable (bytes "y") (some 2) unset ∷ []))
    ∷ process (times 2) (bytes "P") [] (body (declare 43 (variable c none (set_channel 2 (45 ∷ 40 ∷ [])) ∷ []) ∷ []) (then (bare (leaf skip)) end))
    ∷ process idle (bytes "Q") (group 45 (a ∷ b ∷ []) ∷ group 40 (c ∷ []) ∷ []) (body [] (then (bare (leaf skip)) end)) ∷ init (body [] (then (bare (leaf (run (bytes "Q") (num 1 ∷ num 2 ∷ num 3 ∷ [])))) end)) ∷ []

every-unit :
    layout units
    ≡ ln (bytes "mtype={a,b}") ++ ln (bytes "int x=3,y[2]")
    ++ ln (bytes "active[2]proctype P()") ++ ln (bytes "{") ++ ln (bytes "  chan c=[2]of{int,byte};") ++ ln (bytes "  skip") ++ ln (bytes "}")
    ++ ln (bytes "proctype Q(int a,b;byte c)") ++ ln (bytes "{") ++ ln (bytes "  skip") ++ ln (bytes "}")
    ++ ln (bytes "init") ++ ln (bytes "{") ++ ln (bytes "  run Q(1,2,3)") ++ ln (bytes "}")
unfolding units write_behind digits_by find same
every-unit = refl

statements : Model
statements =
    process once (bytes "P") []
    (body (declare 45 (variable a none unset ∷ []) ∷ [])
    (then (labelled (bytes "L") (select (option (then (bare (leaf (express (binary 10 (get (plain a)) (num 0))))) (then (bare (loop (option (then (bare (leaf break)) end) over))) end))
    (option (then (bare (leaf else)) (then (labelled (bytes "M") (leaf (assign (plain a) (binary 15 (get (plain a)) (unary 15 (get (plain a))))))) end)) over))))
    (then (bare (leaf skip)) end)))
    ∷ []

every_statement :
    layout statements
    ≡ ln (bytes "active proctype P()") ++ ln (bytes "{") ++ ln (bytes "  int a;") ++ ln (bytes "  L:if")
    ++ ln (bytes "    ::") ++ ln (bytes "    a>0;") ++ ln (bytes "    do") ++ ln (bytes "      ::") ++ ln (bytes "      break") ++ ln (bytes "    od")
    ++ ln (bytes "    ::") ++ ln (bytes "    else;") ++ ln (bytes "    M:a=a- -a") ++ ln (bytes "  fi;") ++ ln (bytes "  skip") ++ ln (bytes "}")
unfolding statements write_behind digits_by find same
every_statement = refl
